use Rattle.std.proofs.Common.{◌∙◌, arith}
use Rattle.std.specs.Int.{w64}
use Rattle.pvm_alu.proofs.Turns.{rotate_left-turned}
use Rattle.pvm_alu.proofs.shifts.turned_left_64.Goals as goal

pub returns : goal.returns
returns c = c.rotate_left.ensures ∙ rotate_left-turned w64 c.args.x c.args.by c.requires (omega arith)
