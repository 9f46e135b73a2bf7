use Rattle.std.proofs.Common.{arith}
use Rattle.blob_decode.proofs.Windows.{LastSet-leading_zeros}
use Rattle.blob_decode.proofs.program.last_set.Goals as goal

pub returns : goal.returns
returns c = LastSet-leading_zeros c.args.bits (omega arith) (omega arith)
