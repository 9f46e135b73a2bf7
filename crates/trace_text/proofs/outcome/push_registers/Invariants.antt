use Rattle.std.proofs.Common.{◌≡◌, ◌++◌, drop}
use Rattle.trace_text.specs.Transcript.{register_lines}
use Rattle.trace_text.proofs.outcome.push_registers.Given as goal

abbrev pub invariant-loop-k : goal.invariant-loop-k
invariant-loop-k l = l.lines.items ++ register_lines l.k (drop l.k l.registers) ≡ l.fn.lines.items ++ register_lines 0 l.registers
