use Rattle.std.proofs.Common.{◌∙◌, arith}
use Rattle.std.specs.Int.{w32}
use Rattle.pvm_alu.proofs.Turns.{rotate_right-turned}
use Rattle.pvm_alu.proofs.shifts.turned_right_32.Goals as goal

pub returns : goal.returns
returns c = c.rotate_right.ensures ∙ rotate_right-turned w32 c.args.x c.args.by c.requires (omega arith)
