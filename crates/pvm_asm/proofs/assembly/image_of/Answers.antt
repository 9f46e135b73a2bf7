use Rattle.std.proofs.Common.{arith}
use Rattle.pvm_asm.proofs.Surveys.{lines_length}
use Rattle.pvm_asm.proofs.assembly.image_of.Goals as goal

pub overflow_add-number : goal.overflow_add-number
overflow_add-number c = omega (arith, lines_length c.args.text.now)
