use Rattle.std.proofs.Common.{◌∙◌, arith}
use Rattle.std.proofs.lemmas.Bool.Decides.{nat_tests}
use Rattle.paged_memory.proofs.Spelled.{read_number}
use Rattle.paged_memory.proofs.numbers.number_of.Goals as goal

pub returns-in-1 : goal.returns-in-1
returns-in-1 c = read_number 1 c.args.width _ c.args.bytes.now c.requires.room c.in-1.is (omega (arith, c.from.ensures))

pub returns-in-2 : goal.returns-in-2
returns-in-2 c = read_number 2 c.args.width _ c.args.bytes.now c.requires.room c.in-2.is (c.from-in-2.ensures ∙ c.read_u16.ensures)

pub returns-in-4 : goal.returns-in-4
returns-in-4 c = read_number 4 c.args.width _ c.args.bytes.now c.requires.room c.in-4.is (c.from-in-4.ensures ∙ c.read_u32.ensures)

pub returns-in_default : goal.returns-in_default
returns-in_default c = read_number 8 c.args.width _ c.args.bytes.now c.requires.room (grind (arith, nat_tests)) c.read_u64.ensures
