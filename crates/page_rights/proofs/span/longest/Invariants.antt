use Rattle.std.proofs.Common.{◌≡◌, ℕ, ◌+◌, ◌++◌, drop, get_or}
use Rattle.page_rights.specs.PageRights.{none_granted}
use Rattle.page_rights.specs.RunList.{spread, IsSpan}
use Rattle.page_rights.specs.declared.rights.Rights.TheVariants as may
use Rattle.page_rights.proofs.span.longest.Given as goal

abbrev pub invariant-runs : goal.invariant-runs
invariant-runs l = record {
  rest : (k : ℕ) → get_or (spread (drop l.run-index l.runs) ++ none_granted) k may.No ≡ get_or (spread l.runs ++ none_granted) (l.before + k) may.No;
  found : IsSpan (spread l.runs ++ none_granted) l.found;
}
