use Rattle.std.proofs.Common.{◌≡◌, ◌+◌, ◌-◌}
use Rattle.paged_memory.specs.PageMap.{forbidden, least}
use Rattle.paged_memory.specs.Seen.{seen}
use Rattle.paged_memory.proofs.reads.refusal_anywhere.Given as goal

abbrev pub invariant-places : goal.invariant-places
invariant-places l = l.lowest ≡ least (forbidden (seen l.held) l.need (l.addr + l.k) (l.width - l.k))
