-- What a watcher is told of a run.
use Rattle.std.specs.Prelude.{ℕ, ◌+◌, ◌-◌, nat_lt, is_some, ◌||◌, List, [], ◌∷◌, ◌++◌, if◌then◌else◌}
use Rattle.blob_decode.specs.Program.{Program, op_at}
use Rattle.pvm_step.specs.declared.watcher.PaidInstruction.{PaidInstruction}
use Rattle.pvm_step.specs.History.{Moment, cost}

-- the instruction at the pc of a state, once its cost is paid, under a number
abbrev pub instruction_at : ℕ → Program → Moment → PaidInstruction
instruction_at number p m = record { number = number; pc = m.state.pc; op = op_at p m.state.pc; gas = m.gas - cost p m }

-- the one that is paid in a state: none where the state has an exit, or less gas than the instruction costs
abbrev pub paid_at : ℕ → Program → Moment → List PaidInstruction
paid_at number p m = if is_some m.exit || nat_lt m.gas (cost p m) then [] else instruction_at number p m ∷ []

-- those of states one after another, numbered from this number on
unfoldable pub paid_instructions : ℕ → Program → List Moment → List PaidInstruction
paid_instructions number p [] = []
paid_instructions number p (m ∷ ms) = paid_at number p m ++ paid_instructions (number + 1) p ms

-- between two states of a watcher it was told of these instructions, in this order, and of no others
abbrev pub WasTold : {W : Type 0} → (W → List PaidInstruction → Type 0) → W → W → List PaidInstruction → Type 0
WasTold HasSeen old new told = (seen : List PaidInstruction) → HasSeen old seen → HasSeen new (seen ++ told)
