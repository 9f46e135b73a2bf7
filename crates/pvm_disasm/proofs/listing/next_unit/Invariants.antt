use Rattle.std.proofs.Common.{◌-◌, length}
use Rattle.pvm_disasm.proofs.Walks.{Reaches}
use Rattle.pvm_disasm.proofs.listing.next_unit.Given as goal

abbrev pub invariant-places : goal.invariant-places
invariant-places l = Reaches l.program.mask l.program.code l.from l.place

abbrev pub decreases-places : goal.decreases-places
decreases-places l = length l.program.code - l.place
