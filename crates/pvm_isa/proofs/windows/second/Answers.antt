use Rattle.pvm_isa.specs.WindowLaws.{second-byte}
use Rattle.pvm_isa.proofs.windows.second.Goals as goal

pub returns : goal.returns
returns c = λ code place is. second-byte code place c.args.bytes is
