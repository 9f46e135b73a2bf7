use Rattle.std.proofs.Common.{◌≡◌, ◌-◌, ◌||◌}
use Rattle.std.specs.FinMap as fin
use Rattle.account_context.specs.FreeIds.{first_free}
use Rattle.account_overlay.proofs.overlay.first_free.Given as goal

-- the first of those that are left is the first of all
abbrev pub invariant-loop-places : goal.invariant-loop-places
invariant-loop-places l =
    first_free (λ id. fin.contains_key l.others.base id || fin.contains_key l.others.now id) l.candidate (l.count - l.places) l.places
    ≡ first_free (λ id. fin.contains_key l.others.base id || fin.contains_key l.others.now id) l.candidate l.count 0
