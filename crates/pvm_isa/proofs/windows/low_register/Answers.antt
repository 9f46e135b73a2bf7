use Rattle.std.proofs.Common.{arith}
use Rattle.pvm_isa.specs.WindowLaws.{second-byte}
use Rattle.pvm_isa.proofs.windows.low_register.Goals as goal

pub returns-clause-value : goal.returns-clause-value
returns-clause-value c = λ code place is. omega (arith, second-byte code place c.args.bytes is, c.min.ensures)
