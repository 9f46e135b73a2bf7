use Rattle.jam_codec.specs.FieldLaws.{natural_laws, fixed_laws, bytes_laws, bits_laws, numbers_laws}
use Rattle.jam_codec.proofs.laws.field_laws.Goals as goal

pub returns-clause-natural : goal.returns-clause-natural
returns-clause-natural c = natural_laws

pub returns-clause-fixed : goal.returns-clause-fixed
returns-clause-fixed c = fixed_laws

pub returns-clause-bytes : goal.returns-clause-bytes
returns-clause-bytes c = bytes_laws

pub returns-clause-bits : goal.returns-clause-bits
returns-clause-bits c = bits_laws

pub returns-clause-numbers : goal.returns-clause-numbers
returns-clause-numbers c = numbers_laws
