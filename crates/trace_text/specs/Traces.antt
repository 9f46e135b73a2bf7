-- The lines of a run's last instructions.
use Rattle.std.specs.Prelude.{ℕ, List, map}
use Rattle.circular_buffer.specs.Buffer.{keep_last}
use Rattle.blob_decode.specs.Program.{Program, op_at}
use Rattle.pvm_step.specs.declared.watcher.PaidInstruction.{PaidInstruction}
use Rattle.pvm_step.specs.History.{Moment, history}
use Rattle.pvm_step.specs.Watched.{paid_instructions}
use Rattle.trace_text.specs.declared.last.KeptInstruction.{KeptInstruction}
use Rattle.trace_text.specs.declared.line.Line.{Line}
use Rattle.trace_text.specs.declared.line.Line.TheVariants as of

-- how many lines of a run are shown at the most
abbrev pub most_lines : ℕ
most_lines = 1000

-- the line of an instruction that is paid: its number, its place, the opcode that acts, and the gas after its charge
abbrev pub step_line : PaidInstruction → Line
step_line i = of.Step i.number i.pc i.op i.gas

-- an instruction as it is kept: without its opcode, which the program tells
abbrev pub kept_of : PaidInstruction → KeptInstruction
kept_of i = record { number = i.number; pc = i.pc; gas = i.gas }

-- the line of one that is kept
abbrev pub kept_line : Program → KeptInstruction → Line
kept_line p k = of.Step k.number k.pc (op_at p k.pc) k.gas

-- the lines of the last so many of the instructions that are paid in the history of a state, numbered from 1
unfoldable pub trace_lines : ℕ → Program → Moment → List Line
trace_lines last p m = map step_line (keep_last last (paid_instructions 1 p (history p m)))
