use Rattle.account_overlay.proofs.Added.{kept_new}
use Rattle.account_overlay.proofs.others.Others.new.Goals as goal

pub invariant_of-result : goal.invariant_of-result
invariant_of-result c = kept_new c.args.base.now c.in_ok-footprints_of.field-0.entries c.in_ok-footprints_of.ensures c.new.result.places.entries c.new.result.journal.items c.new.ensures.places c.new.ensures.journal
