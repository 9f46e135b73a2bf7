use Rattle.jam_codec.specs.FormatLaws.{one_spelling, no_prefix}
use Rattle.blob_decode.specs.Program.{program_blob}
use Rattle.blob_decode.specs.BlobLaws.{program_blob_laws}
use Rattle.blob_decode.proofs.laws.blob_laws.Goals as goal

pub returns-clause-one_value : goal.returns-clause-one_value
returns-clause-one_value c = one_spelling program_blob program_blob_laws

pub returns-clause-no_prefix : goal.returns-clause-no_prefix
returns-clause-no_prefix c = no_prefix program_blob program_blob_laws

pub returns-clause-place : goal.returns-clause-place
returns-clause-place c = program_blob_laws
