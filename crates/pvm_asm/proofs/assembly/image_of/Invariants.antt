use Rattle.std.proofs.Common.{◌≡◌, ◌+◌, length, map}
use Rattle.pvm_asm.specs.Words.{lines_of}
use Rattle.pvm_asm.specs.Statements.{read_line}
use Rattle.pvm_asm.specs.Assembly.{first_refused, with_lines, no_image, unread, read_lines}
use Rattle.pvm_asm.proofs.assembly.image_of.Given as goal

abbrev pub invariant-reading : goal.invariant-reading
invariant-reading l = record {
  refused : first_refused l.whole l.so_far (l.number + 1) (map read_line l.lines) ≡ first_refused l.whole unread 1 (read_lines l.text);
  made : with_lines l.whole l.image (map read_line l.lines) ≡ with_lines l.whole no_image (read_lines l.text);
  counted : l.number + length l.lines ≡ length (lines_of l.text);
}

abbrev pub decreases-reading : goal.decreases-reading
decreases-reading l = length l.lines
