use Rattle.pvm_isa.specs.OpcodeLaws.{numbered, numbered-only, named, named-only, number_of-below, number_of-injective, name_of-injective}
use Rattle.pvm_isa.proofs.laws.opcode_laws.Goals as goal

pub returns-clause-numbered : goal.returns-clause-numbered
returns-clause-numbered c = numbered

pub returns-clause-numbered_only : goal.returns-clause-numbered_only
returns-clause-numbered_only c = numbered-only

pub returns-clause-named : goal.returns-clause-named
returns-clause-named c = named

pub returns-clause-named_only : goal.returns-clause-named_only
returns-clause-named_only c = named-only

pub returns-clause-below : goal.returns-clause-below
returns-clause-below c = number_of-below

pub returns-clause-one_number : goal.returns-clause-one_number
returns-clause-one_number c = number_of-injective

pub returns-clause-one_name : goal.returns-clause-one_name
returns-clause-one_name c = name_of-injective
