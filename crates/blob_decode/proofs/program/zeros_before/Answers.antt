use Rattle.std.proofs.Common.{arith}
use Rattle.blob_decode.proofs.Windows.{FirstSet-trailing_zeros}
use Rattle.blob_decode.proofs.program.zeros_before.Goals as goal

pub returns : goal.returns
returns c = FirstSet-trailing_zeros c.args.bits (omega arith)
