-- The history of a machine: its states, one after each instruction.
use Rattle.std.specs.Prelude.{◌≡◌, ℕ, zero, suc, ◌+◌, ◌-◌, ◌≤◌, Bool, true, false, nat_lt, List, [], ◌∷◌, replicate, if◌then◌else◌, Option, Some, None, IsSome}
use Rattle.std.specs.FinMap as fin
use Rattle.gas_ledger.specs.Schedule.{Schedule, form_cost, plain}
use Rattle.pvm_isa.specs.declared.op.Op.{Op}
use Rattle.pvm_isa.specs.declared.form.Form.{Form}
use Rattle.pvm_isa.specs.declared.form.Form.TheVariants.{F1, F2, F3, F4, F5, F6, F7, F8, F9, F10, F11, F12, F13}
use Rattle.pvm_isa.specs.Opcodes.{form_of}
use Rattle.blob_decode.specs.Program.{Program, op_at}
use Rattle.paged_memory.specs.PageMap.{readable, bytes_from}
use Rattle.pvm_step.specs.declared.exit.Exit.{Exit}
use Rattle.pvm_step.specs.declared.exit.Exit.TheVariants.{Halt, Panic, OutOfGas, Fault, Host}
use Rattle.pvm_step.specs.Effect.{MachineState, value_in, effect}

-- a machine's state: what instructions read and change, the gas left, the schedule, and the exit, if it has ended
pub record Moment : Type 0 where
  pub state : MachineState
  pub gas : ℕ
  pub costs : Schedule
  pub exit : Option Exit

-- ---- One step

abbrev pub form_number : Form → ℕ
form_number F1 = 1
form_number F2 = 2
form_number F3 = 3
form_number F4 = 4
form_number F5 = 5
form_number F6 = 6
form_number F7 = 7
form_number F8 = 8
form_number F9 = 9
form_number F10 = 10
form_number F11 = 11
form_number F12 = 12
form_number F13 = 13

-- what an instruction of an opcode costs
unfoldable pub cost_of : Schedule → Op → ℕ
cost_of costs op = form_cost costs (form_number (form_of op))

-- what a state costs: the opcode that acts on it does. Where none acts that is trap, of form 1
abbrev pub cost : Program → Moment → ℕ
cost p m = cost_of m.costs (op_at p m.state.pc)

-- the step of a state: with less gas than it costs it is out of gas, with gas 0, and all else stays; any other takes
-- its cost, and then the instruction acts
unfoldable pub step : Program → Moment → Moment
step p m = if nat_lt m.gas (cost p m) then record m { gas = 0; exit = Some OutOfGas }
    else record m { state = (effect p m.state).state; gas = m.gas - cost p m; exit = (effect p m.state).exit }

-- ---- Histories

-- these are the states from the first on: each is the step of the one before, and the last alone has an exit
abbrev pub IsHistory : Program → Moment → List Moment → Type 0
IsHistory p m [] = ⊥
IsHistory p m (n ∷ []) = (n ≡ m) × IsSome m.exit
IsHistory p m (n ∷ (o ∷ ms)) = (n ≡ m) × (m.exit ≡ None) × IsHistory p (step p m) (o ∷ ms)

abbrev pub last_state : Moment → List Moment → Moment
last_state m [] = m
last_state m (n ∷ ms) = last_state n ms

-- a state that has an exit stays as it is
abbrev pub followed : Program → Option Exit → Moment → Moment
followed p None m = step p m
followed p (Some exit) m = m

-- the state after so many steps, or at the end where the run ends before
unfoldable pub reached : ℕ → Program → Moment → Moment
reached zero p m = m
reached (suc n) p m = reached n p (followed p m.exit m)

-- the answer of a run: each step costs at least 1, so that it has ended after one more than the gas
abbrev pub answer : Program → Moment → Moment
answer p m = reached (m.gas + 1) p m

-- the states after one: none where it has an exit
abbrev pub states_after : Option Exit → List Moment → List Moment
states_after None ms = ms
states_after (Some exit) ms = []

-- the first so many states, or all where the run ends before
unfoldable pub states : ℕ → Program → Moment → List Moment
states zero p m = []
states (suc n) p m = m ∷ states_after m.exit (states n p (step p m))

-- the one list that is a history from a state
abbrev pub history : Program → Moment → List Moment
history p m = states (m.gas + 2) p m

-- ---- Gas

-- what states cost together
abbrev pub total_cost : Program → List Moment → ℕ
total_cost p [] = 0
total_cost p (m ∷ ms) = cost p m + total_cost p ms

-- all but the last
abbrev pub all_but_last : List Moment → List Moment
all_but_last [] = []
all_but_last (m ∷ []) = []
all_but_last (m ∷ (n ∷ ms)) = m ∷ all_but_last (n ∷ ms)

-- the gas never rises from a state to the next
abbrev pub GasNeverRises : List Moment → Type 0
GasNeverRises [] = Unit {0}
GasNeverRises (m ∷ []) = Unit {0}
GasNeverRises (m ∷ (n ∷ ms)) = (n.gas ≤ m.gas) × GasNeverRises (n ∷ ms)

-- the same with more gas left
abbrev pub gain : ℕ → Moment → Moment
gain more m = record m { gas = m.gas + more }

-- ---- The raw machine and the output

-- at a place with so much gas: registers 0, no page, no heap, and the plain schedule
abbrev pub raw : ℕ → ℕ → Moment
raw pc gas = record {
  state = record { pc = pc; registers = replicate 13 0; memory = fin.empty; heap = record { next = 0; end = 0 } };
  gas = gas;
  costs = plain;
  exit = None;
}

abbrev pub has_halted : Option Exit → Bool
has_halted (Some Halt) = true
has_halted (Some Panic) = false
has_halted (Some OutOfGas) = false
has_halted (Some (Fault address)) = false
has_halted (Some (Host number)) = false
has_halted None = false

-- the r8 bytes at r7, where they may all be read; else nothing
unfoldable pub output : MachineState → List ℕ
output s = if readable s.memory (value_in s 7) (value_in s 8) then bytes_from s.memory (value_in s 7) (value_in s 8) else []

-- the output of a state that halted; of another nothing
abbrev pub output_of : Moment → List ℕ
output_of m = if has_halted m.exit then output m.state else []
