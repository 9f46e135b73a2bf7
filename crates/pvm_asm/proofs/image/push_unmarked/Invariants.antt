use Rattle.std.proofs.Common.{◌≡◌, ◌-◌, ◌++◌, replicate, false}
use Rattle.pvm_asm.proofs.image.push_unmarked.Given as goal

abbrev pub invariant-loop-byte : goal.invariant-loop-byte
invariant-loop-byte l = l.mask.items ++ replicate (l.n - l._byte) false ≡ l.fn.mask.items ++ replicate l.n false
