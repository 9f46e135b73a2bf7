use Rattle.std.proofs.Common.{◌≡◌, ◌-◌, ◌++◌}
use Rattle.byte_numbers.specs.Numbers.{little_endian}
use Rattle.pvm_asm.proofs.encode.push_low.Given as goal

abbrev pub invariant-loop-byte : goal.invariant-loop-byte
invariant-loop-byte l = l.out.items ++ little_endian (l.width - l._byte) l.left ≡ l.fn.out.items ++ little_endian l.width l.number
