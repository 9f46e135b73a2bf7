use Rattle.std.proofs.Common.{◌≡◌, ◌++◌, drop, map, string_bytes}
use Rattle.pvm_disasm.specs.Listing.{jump_line, lines_text}
use Rattle.pvm_disasm.proofs.listing.push_entries.Given as goal

abbrev pub invariant-loop-k : goal.invariant-loop-k
invariant-loop-k l = string_bytes l.text ++ lines_text (map jump_line (drop l.k l.program.jumps)) ≡ string_bytes l.fn.text ++ lines_text (map jump_line l.program.jumps)
