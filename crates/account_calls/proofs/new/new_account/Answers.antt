use Rattle.account_calls.proofs.NewAccounts.{fits_blank, fits_asking}
use Rattle.account_calls.proofs.new.new_account.Goals as goal

pub invariant_of-account : goal.invariant_of-account
invariant_of-account c = fits_blank c.new.result c.new-3.result c.new.ensures c.new-3.ensures

pub put_history-requires : goal.put_history-requires
put_history-requires c = fits_asking c.new.result c.new-3.result c.new.ensures c.new-3.ensures c.args.hash.now c.args.length c.in-Some.history c.ranges.length.fits
