use Rattle.std.proofs.Common.{◌≡◌, ◌++◌, not}
use Rattle.std.specs.FinMap as fin
use Rattle.account_context.proofs.Differences.{listed}
use Rattle.account_context.proofs.difference.removed_ids.Given as goal

abbrev pub invariant-loop-id : goal.invariant-loop-id
invariant-loop-id l = l.removed ++ listed (λ id. not (fin.contains_key l.now id)) l.id-iterator ≡ listed (λ id. not (fin.contains_key l.now id)) (fin.entries l.base)
