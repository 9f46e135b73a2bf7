use Rattle.std.proofs.Common.{◌≡◌, ◌++◌, drop, string_bytes}
use Rattle.trace_text.specs.Transcript.{text_of}
use Rattle.trace_text.proofs.spelling.spell_lines.Given as goal

abbrev pub invariant-loop-line : goal.invariant-loop-line
invariant-loop-line l = string_bytes l.text ++ text_of (drop l.line-index l.lines) ≡ text_of l.lines
