use Rattle.std.proofs.Common.{◌≡◌, ℕ, None}
use Rattle.std.specs.Ordering.{nat_cmp}
use Rattle.std.specs.BTreeMap.{is_at}
use Rattle.std.specs.Map.{lookup}
use Rattle.std.specs.FinMap as fin
use Rattle.account_overlay.proofs.Listed.{tabled}
use Rattle.account_overlay.proofs.others.footprints_of.Given as goal

-- the table, once it has what those that are left take up, is the whole one
abbrev pub invariant-loop-id : goal.invariant-loop-id
invariant-loop-id l = (q : ℕ) → tabled q l.id-iterator (lookup (is_at (nat_cmp q)) l.footprints.entries) ≡ tabled q (fin.entries l.fn.accounts) None
