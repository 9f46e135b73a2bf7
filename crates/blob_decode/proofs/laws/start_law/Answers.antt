use Rattle.blob_decode.proofs.Starts.{is_start-IsStart}
use Rattle.blob_decode.proofs.laws.start_law.Goals as goal

pub returns : goal.returns
returns c = is_start-IsStart
