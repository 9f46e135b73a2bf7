use Rattle.std.proofs.Common.{◌≡◌, ◌++◌, drop, get_or}
use Rattle.page_rights.specs.PageRights.{none_granted}
use Rattle.page_rights.specs.RunList.{spread}
use Rattle.page_rights.specs.declared.rights.Rights.TheVariants as may
use Rattle.page_rights.proofs.parts.rights_at.Given as goal

abbrev pub invariant-runs : goal.invariant-runs
invariant-runs l = get_or (spread (drop l.run-index l.runs) ++ none_granted) l.before may.No ≡ get_or (spread l.runs ++ none_granted) l.page may.No
