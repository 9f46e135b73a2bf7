-- The deliveries so far made what there is now.
use Rattle.std.proofs.Common.{◌≡◌, ◌≤◌, take}
use Rattle.batch_accumulate.specs.Deliveries.{none_stored, after_deliveries}
use Rattle.batch_accumulate.proofs.deliveries.deliver_all.Given as goal

abbrev pub invariant-loop-delivery : goal.invariant-loop-delivery
invariant-loop-delivery l = record {
  few : l.stored ≤ l.delivery-index;
  made : after_deliveries l.slot (none_stored l.initial.accounts) (take l.delivery-index l.deliveries) ≡ record { accounts = l.accounts; stored = l.stored };
}
