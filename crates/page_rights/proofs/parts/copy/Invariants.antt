use Rattle.std.proofs.Common.{◌≡◌, ◌+◌, ◌^◌, ◌≤◌, ◌++◌, map, take, drop}
use Rattle.page_rights.specs.PageRights.{none_granted}
use Rattle.page_rights.specs.RunList.{spread, changed}
use Rattle.page_rights.proofs.parts.copy.Given as goal

-- what was copied and what is left make all
abbrev pub invariant-runs : goal.invariant-runs
invariant-runs l =
    (l.before + l.left ≤ 2 ^ 20)
    × (spread l.out.items ++ map (changed l.change) (take l.left (drop l.before (spread (drop l.run-index l.runs) ++ none_granted))) ≡ spread l.fn.out.items ++ map (changed l.change) (take l.fn.count (drop l.fn.first (spread l.runs ++ none_granted))))
