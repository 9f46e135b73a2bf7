use Rattle.byte_numbers.specs.NumberLaws.{little_number-below, little_endian-little_number, length-little_endian, AreBytes-little_endian, little_number-little_endian, little_number-append}
use Rattle.byte_numbers.proofs.laws.number_laws.Goals as goal

pub returns-clause-below : goal.returns-clause-below
returns-clause-below c = little_number-below

pub returns-clause-spelled : goal.returns-clause-spelled
returns-clause-spelled c = little_endian-little_number

pub returns-clause-size : goal.returns-clause-size
returns-clause-size c = length-little_endian

pub returns-clause-bytes : goal.returns-clause-bytes
returns-clause-bytes c = AreBytes-little_endian

pub returns-clause-read : goal.returns-clause-read
returns-clause-read c = little_number-little_endian

pub returns-clause-parts : goal.returns-clause-parts
returns-clause-parts c = little_number-append
