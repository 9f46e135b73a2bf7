use Rattle.std.proofs.Common.{◌≢◌, ◌<◌}
use Rattle.pvm_isa.specs.declared.op.Op.{Op}
use Rattle.pvm_isa.specs.Opcodes.{number_of, name_of}
use Rattle.pvm_asm.proofs.opcode.op_named.Given as goal

abbrev pub invariant-loop-number : goal.invariant-loop-number
invariant-loop-number l = (op : Op) → number_of op < l.number → name_of op ≢ l.name
