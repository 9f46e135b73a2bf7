use Rattle.jam_codec.specs.FormatLaws.{one_spelling, no_prefix}
use Rattle.program_init.specs.Standard.{standard_program}
use Rattle.program_init.specs.StandardLaws.{standard_laws}
use Rattle.program_init.proofs.laws.standard_laws.Goals as goal

pub returns-clause-one_value : goal.returns-clause-one_value
returns-clause-one_value c = one_spelling standard_program standard_laws

pub returns-clause-no_prefix : goal.returns-clause-no_prefix
returns-clause-no_prefix c = no_prefix standard_program standard_laws

pub returns-clause-place : goal.returns-clause-place
returns-clause-place c = standard_laws
