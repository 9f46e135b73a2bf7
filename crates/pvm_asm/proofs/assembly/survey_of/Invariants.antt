use Rattle.std.proofs.Common.{◌≡◌, length, map}
use Rattle.pvm_asm.specs.Statements.{read_line}
use Rattle.pvm_asm.specs.Assembly.{after_lines, unread, read_lines}
use Rattle.pvm_asm.proofs.Surveys.{IsNarrow}
use Rattle.pvm_asm.proofs.assembly.survey_of.Given as goal

abbrev pub invariant-reading : goal.invariant-reading
invariant-reading l = record {
  read : after_lines l.survey (map read_line l.lines) ≡ after_lines unread (read_lines l.text);
  narrow : IsNarrow l.survey.width;
}

abbrev pub decreases-reading : goal.decreases-reading
decreases-reading l = length l.lines
