use Rattle.std.proofs.Common.{take}
use Rattle.jam_cli.specs.Table.{NamesNone}
use Rattle.jam_cli.specs.Parts.{plain_inputs}
use Rattle.jam_cli.proofs.reads.first_word.Given as goal

abbrev pub invariant-loop-input : goal.invariant-loop-input
invariant-loop-input l = NamesNone (plain_inputs (take l.input-index l.inputs)) l.name
