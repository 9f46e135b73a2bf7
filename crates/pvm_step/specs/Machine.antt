-- The machine of the code as the definitions see it.
use Rattle.std.specs.Prelude.{◌≡◌, ℕ, ◌<◌, ◌≤◌, length, ◌⊎◌, ◌^◌, List, Bool, true, false, Option, Some, None, refl}
use Rattle.std.specs.Coded.{Coded, code_by, coded×, coded_ℕ, coded_bool, coded_list}
use Rattle.gas_ledger.specs.Schedule.{Schedule, coded_schedule}
use Rattle.pvm_isa.specs.Arguments.{IsWindow, arguments}
use Rattle.pvm_isa.specs.declared.form.Form.TheVariants.{F10}
use Rattle.blob_decode.specs.Program.{Program, next, skip}
use Rattle.paged_memory.specs.PageMap.{Memory}
use Rattle.paged_memory.specs.Codes.{memory_code}
use Rattle.pvm_step.specs.declared.exit.Exit.{Exit}
use Rattle.pvm_step.specs.declared.exit.Exit.TheVariants.{Panic}
use Rattle.pvm_step.specs.declared.attempt.Attempt.{Attempt}
use Rattle.pvm_step.specs.declared.attempt.Attempt.TheVariants.{Next, Jumped, Panics, Beyond}
use Rattle.pvm_step.specs.declared.exit.Progress.{Progress}
use Rattle.pvm_step.specs.declared.exit.Progress.TheVariants.{Ended, Paused}
use Rattle.pvm_step.specs.Effect.{MachineState, Heap, After}
use Rattle.pvm_step.specs.History.{Moment}

-- a program with a place in it, registers, a memory, a heap, the gas left, and what instructions cost
pub record Machine : Type 0 where
  pub program : Program
  pub pc : ℕ
  pub registers : List ℕ
  pub memory : Memory
  pub heap : Heap
  pub gas : ℕ
  pub costs : Schedule

-- this is where the machine stands, within the code, and what is fetched there
pub record IsAt (pc after_it skipped bytes : ℕ) (m : Machine) : Type 0 where
  pub here : pc ≡ m.pc
  pub within : m.pc < length m.program.code
  pub next : after_it ≡ next m.program m.pc
  pub skip : skipped ≡ skip m.program m.pc
  pub short : skipped ≤ 24
  pub window : IsWindow m.program.code m.pc bytes

-- these are the two registers and the immediate that an instruction of them has where the machine stands, and the place after it
pub record AreArguments (a b x after_it : ℕ) (m : Machine) : Type 0 where
  pub first : a ≡ (arguments F10 m.program.code m.pc (skip m.program m.pc)).a
  pub second : b ≡ (arguments F10 m.program.code m.pc (skip m.program m.pc)).b
  pub immediate : x ≡ (arguments F10 m.program.code m.pc (skip m.program m.pc)).x
  pub low : a < 13
  pub high : b < 13
  pub next : after_it ≡ next m.program m.pc

-- what instructions leave: the program, the gas and the schedule
pub record ChangesStateAlone (m n : Machine) : Type 0 where
  pub program : n.program ≡ m.program
  pub gas : n.gas ≡ m.gas
  pub costs : n.costs ≡ m.costs

abbrev pub state_of : Machine → MachineState
state_of m = record { pc = m.pc; registers = m.registers; memory = m.memory; heap = m.heap }

abbrev pub after_of : Machine → Option Exit → After
after_of m exit = record { state = state_of m; exit = exit }

abbrev pub moment : Machine → Option Exit → Moment
moment m exit = record { state = state_of m; gas = m.gas; costs = m.costs; exit = exit }

-- the same where so much gas is left
abbrev pub with_gas : Machine → ℕ → Option Exit → Moment
with_gas m gas exit = record { state = state_of m; gas = gas; costs = m.costs; exit = exit }

-- the exit of a run, if it ended
abbrev pub exit_in : Progress → Option Exit
exit_in (Ended exit) = Some exit
exit_in Paused = None

-- the exit of an instruction that goes on or panics, and whether there was one
abbrev pub exit_after : Attempt → Option Exit
exit_after Next = None
exit_after Jumped = None
exit_after Panics = Some Panic
exit_after Beyond = None

abbrev pub is_done : Attempt → Bool
is_done Next = true
is_done Jumped = true
is_done Panics = true
is_done Beyond = false

-- no heap, or one above the 16 lowest pages and within the 2 ^ 32 addresses
abbrev pub IsHeap : ℕ → ℕ → Type 0
IsHeap next end = ((next ≡ 0) × (end ≡ 0)) ⊎ ((65536 ≤ next) × (next ≤ end) × (end ≤ 2 ^ 32))

-- ---- Codes of these values

abbrev pub coded_heap : Coded Heap
coded_heap = code_by (ℕ × ℕ) (coded× coded_ℕ coded_ℕ) (λ h. (h.next, h.end)) (λ h. record { next = h.0; end = h.1 }) (λ _. refl)

abbrev pub coded_program : Coded Program
coded_program = code_by (ℕ × (List ℕ × (List ℕ × List Bool))) (coded× coded_ℕ (coded× (coded_list coded_ℕ) (coded× (coded_list coded_ℕ) (coded_list coded_bool))))
    (λ p. (p.width, (p.jumps, (p.code, p.mask)))) (λ p. record { width = p.0; jumps = p.1.0; code = p.1.1.0; mask = p.1.1.1 }) (λ _. refl)

abbrev pub coded_machine : Coded Machine
coded_machine = code_by (Program × (ℕ × (List ℕ × (Memory × (Heap × (ℕ × Schedule)))))) (coded× coded_program (coded× coded_ℕ (coded× (coded_list coded_ℕ) (coded× memory_code (coded× coded_heap (coded× coded_ℕ coded_schedule))))))
    (λ m. (m.program, (m.pc, (m.registers, (m.memory, (m.heap, (m.gas, m.costs)))))))
    (λ m. record { program = m.0; pc = m.1.0; registers = m.1.1.0; memory = m.1.1.1.0; heap = m.1.1.1.1.0; gas = m.1.1.1.1.1.0; costs = m.1.1.1.1.1.1 }) (λ _. refl)
