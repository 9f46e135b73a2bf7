use Rattle.std.proofs.Common.{arith}
use Rattle.pvm_isa.proofs.Numbers.{eight}
use Rattle.pvm_isa.proofs.bytes.eight_one_by_one.Goals as goal

pub returns : goal.returns
returns c = omega (arith, eight c.args.code.now c.args.place)
