use Rattle.pvm_asm.proofs.Opcodes.{op_found}
use Rattle.pvm_asm.proofs.opcode.op_with_name.Goals as goal

pub returns : goal.returns
returns c = op_found c.opcode_laws.ensures.named c.opcode_laws.ensures.named_only c.args.name.now c.op_named.result c.op_named.ensures
