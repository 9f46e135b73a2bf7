use Rattle.std.proofs.Common.{◌≡◌, ◌+◌, ◌≤◌, not, length}
use Rattle.std.specs.FinMap as fin
use Rattle.account_context.proofs.Differences.{kept_count}
use Rattle.account_context.proofs.difference.count_added.Given as goal

abbrev pub invariant-loop-id : goal.invariant-loop-id
invariant-loop-id l = record {
  sum : l.count + kept_count (λ id. not (fin.contains_key l.base id)) l.id-iterator ≡ kept_count (λ id. not (fin.contains_key l.base id)) (fin.entries l.now);
  few : l.count + length l.id-iterator ≤ fin.len l.now;
}
