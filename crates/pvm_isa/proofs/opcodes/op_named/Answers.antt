use Rattle.std.proofs.Common.{arith}
use Rattle.pvm_isa.specs.OpcodeLaws.{number_of-below}
use Rattle.pvm_isa.proofs.opcodes.op_named.Goals as goal

pub returns : goal.returns
returns c = λ op. c.loop-number.invariant op (omega (arith, number_of-below op))
