use Rattle.std.proofs.Common.{◌<◌, ◌^◌, refl, arith}
use Rattle.std.proofs.lemmas.List.Elements.{All-replicate}
use Rattle.gas_ledger.proofs.schedule.Schedule.plain.Goals as goal

pub invariant_of-result : goal.invariant_of-result
invariant_of-result c = record {
  costs = refl;
  form_count = refl;
  form_bytes = All-replicate (λ cost. cost < 2 ^ 8) 13 1 (omega arith);
  call_count = refl;
  call_bytes = All-replicate (λ cost. cost < 2 ^ 16) 28 10 (omega arith);
}
