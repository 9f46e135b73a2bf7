use Rattle.std.specs.Prelude.{◌≡◌, ◌++◌, map, drop}
use Rattle.trace_text.specs.Traces.{kept_line}
use Rattle.trace_text.proofs.tracing.step_lines.Given as goal

abbrev pub invariant-loop-k : goal.invariant-loop-k
invariant-loop-k l = l.lines.items ++ map (kept_line l.program) (drop l.k l.instructions) ≡ map (kept_line l.program) l.instructions
