use Rattle.std.proofs.Common.{arith}
use Rattle.pvm_isa.proofs.windows.whole_window.Goals as goal

pub returns : goal.returns
returns c = record { number = c.eight_at.ensures; small = λ k. omega (arith, c.type_inv.code k) }
