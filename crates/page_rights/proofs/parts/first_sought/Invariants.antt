use Rattle.std.proofs.Common.{◌≡◌, ◌+◌, ◌^◌, ◌≤◌, ◌++◌, take, drop}
use Rattle.std.specs.List.{position_from}
use Rattle.page_rights.specs.PageRights.{none_granted}
use Rattle.page_rights.specs.RunList.{spread, is_sought}
use Rattle.page_rights.proofs.parts.first_sought.Given as goal

-- the lowest page of what is left is that of all
abbrev pub invariant-runs : goal.invariant-runs
invariant-runs l =
    (l.before + l.left ≤ 2 ^ 20) × (l.page + l.left ≤ 2 ^ 20)
    × (position_from (is_sought l.sought) l.page (take l.left (drop l.before (spread (drop l.run-index l.runs) ++ none_granted))) ≡ position_from (is_sought l.sought) l.fn.first (take l.fn.count (drop l.fn.first (spread l.runs ++ none_granted))))
