use Rattle.blob_decode.proofs.Starts.{skip-IsSkip, skip-only}
use Rattle.blob_decode.proofs.laws.skip_law.Goals as goal

pub returns-clause-skip : goal.returns-clause-skip
returns-clause-skip c = skip-IsSkip

pub returns-clause-no_other : goal.returns-clause-no_other
returns-clause-no_other c = skip-only
