use Rattle.std.proofs.Common.{◌≡◌, ◌++◌, not}
use Rattle.std.specs.FinMap as fin
use Rattle.account_overlay.proofs.Listed.{listed}
use Rattle.account_overlay.proofs.others.Others.removed_ids.Given as goal

abbrev pub invariant-loop-id : goal.invariant-loop-id
invariant-loop-id l = l.removed ++ listed (λ id. not (fin.contains_key l.self.now id)) l.id-iterator ≡ listed (λ id. not (fin.contains_key l.self.now id)) (fin.entries l.self.base)
