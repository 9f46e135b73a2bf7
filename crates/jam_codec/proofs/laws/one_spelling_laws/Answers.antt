use Rattle.jam_codec.specs.Format.{natural_where, fixed_where, bytes_where, bits_where, numbers_of}
use Rattle.jam_codec.specs.JoinLaws.{one_spelling, no_prefix}
use Rattle.jam_codec.specs.FieldLaws.{natural_laws, fixed_laws, bytes_laws, bits_laws, numbers_laws}
use Rattle.jam_codec.proofs.laws.one_spelling_laws.Goals as goal

pub returns-clause-natural : goal.returns-clause-natural
returns-clause-natural c = λ test. (one_spelling (natural_where test) (natural_laws test), no_prefix (natural_where test) (natural_laws test))

pub returns-clause-fixed : goal.returns-clause-fixed
returns-clause-fixed c = λ n test. (one_spelling (fixed_where n test) (fixed_laws n test), no_prefix (fixed_where n test) (fixed_laws n test))

pub returns-clause-bytes : goal.returns-clause-bytes
returns-clause-bytes c = λ n test. (one_spelling (bytes_where n test) (bytes_laws n test), no_prefix (bytes_where n test) (bytes_laws n test))

pub returns-clause-bits : goal.returns-clause-bits
returns-clause-bits c = λ n test. (one_spelling (bits_where n test) (bits_laws n test), no_prefix (bits_where n test) (bits_laws n test))

pub returns-clause-numbers : goal.returns-clause-numbers
returns-clause-numbers c = λ width n. (one_spelling (numbers_of width n) (numbers_laws width n), no_prefix (numbers_of width n) (numbers_laws width n))
