use Rattle.std.proofs.Common.{arith}
use Rattle.pvm_isa.proofs.windows.code_window.Goals as goal

pub returns : goal.returns
returns c = record { number = c.eight_bytes.ensures; small = λ k. omega (arith, c.type_inv.code k) }
