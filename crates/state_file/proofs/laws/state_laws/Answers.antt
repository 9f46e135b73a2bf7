use Rattle.jam_codec.specs.FormatLaws.{one_spelling, no_prefix}
use Rattle.state_file.specs.StateFile.{state_format}
use Rattle.state_file.specs.StateLaws.{state_laws}
use Rattle.state_file.proofs.laws.state_laws.Goals as goal

pub returns-clause-format : goal.returns-clause-format
returns-clause-format c = state_laws

pub returns-clause-one : goal.returns-clause-one
returns-clause-one c = one_spelling state_format state_laws

pub returns-clause-apart : goal.returns-clause-apart
returns-clause-apart c = no_prefix state_format state_laws
