use Rattle.jam_accounts.specs.Footprint.{storage_octets}
use Rattle.jam_accounts.proofs.Footprints.{lookups_less}
use Rattle.jam_accounts.proofs.account.Account.remove_history.Goals as goal

pub invariant_of-self : goal.invariant_of-self
invariant_of-self c = lookups_less c.self.inside.lookups c.remove.new.self (c.args.hash.now, c.args.length) (storage_octets c.self.inside.storage) c.remove.ensures.after c.self.invariant
