use Rattle.std.proofs.Common.{◌≡◌}
use Rattle.std.specs.FinMap as fin
use Rattle.account_overlay.proofs.Listed.{without_each}
use Rattle.account_overlay.proofs.others.keep_added.Given as goal

abbrev pub invariant-loop-id : goal.invariant-loop-id
invariant-loop-id l = without_each l.id-iterator l.accounts ≡ without_each (fin.entries l.base) l.fn.accounts
