use Rattle.std.proofs.Common.{arith}
use Rattle.pvm_isa.specs.WindowLaws.{third-byte}
use Rattle.pvm_isa.proofs.windows.third_register.Goals as goal

pub returns-clause-value : goal.returns-clause-value
returns-clause-value c = λ code place is. omega (arith, third-byte code place c.args.bytes is, c.min.ensures)
