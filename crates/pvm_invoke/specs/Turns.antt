-- The units of a run with a host, one after another: instructions and host calls (Gray Paper 0.7.0, appendix A: Ψ_H; to take
-- them apart, and costs other than 10 for a call, are this project's own).
use Rattle.std.specs.Prelude.{◌≡◌, ℕ, zero, suc, ◌+◌, ◌-◌, ◌≤◌, nat_lt, length, Bool, true, false, List, [], ◌∷◌, if◌then◌else◌, Option, Some, None}
use Rattle.gas_ledger.specs.Schedule.{Schedule, call_cost}
use Rattle.blob_decode.specs.Program.{next}
use Rattle.pvm_step.specs.declared.exit.Exit.{Exit}
use Rattle.pvm_step.specs.declared.exit.Exit.TheVariants.{Halt, Panic, OutOfGas, Fault, Host}
use Rattle.pvm_step.specs.declared.exit.HostStep.{HostStep}
use Rattle.pvm_step.specs.declared.exit.HostStep.TheVariants as answers
use Rattle.pvm_step.specs.History.{Moment, cost, step}
use Rattle.pvm_step.specs.Machine.{Machine, moment}
use Rattle.pvm_invoke.specs.declared.stage.Stage.{Stage}
use Rattle.pvm_invoke.specs.declared.stage.Stage.TheVariants.{Runs, Awaits, Ended}
use Rattle.pvm_invoke.specs.Held.{Held}
use Rattle.pvm_invoke.specs.HostCall.{Called, HostEffect}

-- where a run stands: the machine, what its host holds, and whether it is at an instruction, awaits a host call, or has ended
pub record Standing : Type 0 where
  pub machine : Machine
  pub held : Held
  pub stage : Stage

abbrev pub stands : Machine → Held → Stage → Standing
stands machine held stage = record { machine = machine; held = held; stage = stage }

-- ---- An instruction

-- a machine as it is at a moment
abbrev pub in_moment : Machine → Moment → Machine
in_moment k m = record { program = k.program; pc = m.state.pc; registers = m.state.registers; memory = m.state.memory; heap = m.state.heap; gas = m.gas; costs = m.costs }

-- an ecalli does not end the run: its host call comes next
abbrev pub stage_after : Option Exit → Stage
stage_after None = Runs
stage_after (Some Halt) = Ended Halt
stage_after (Some Panic) = Ended Panic
stage_after (Some OutOfGas) = Ended OutOfGas
stage_after (Some (Fault address)) = Ended (Fault address)
stage_after (Some (Host number)) = Awaits number

abbrev pub at_moment : Machine → Held → Moment → Standing
at_moment k held m = stands (in_moment k m) held (stage_after m.exit)

abbrev pub instructed : Standing → Standing
instructed s = at_moment s.machine s.held (step s.machine.program (moment s.machine None))

-- ---- A host call

-- a call takes 10 by itself; before it the run pays what the schedule has beyond that
abbrev pub surcharge : Schedule → ℕ → ℕ
surcharge costs number = call_cost costs number - 10

abbrev pub charged : Machine → ℕ → Machine
charged m n = record m { gas = m.gas - n }

abbrev pub called : HostEffect → Standing → ℕ → Called
called effect s number = effect s.held number (charged s.machine (surcharge s.machine.costs number))

-- behind the ecalli
abbrev pub passed : Machine → Machine
passed m = record m { pc = next m.program m.pc }

abbrev pub after_call : Called → HostStep → Option Standing
after_call c answers.Go = Some (stands (passed c.machine) c.held Runs)
after_call c (answers.End exit) = Some (stands c.machine c.held (Ended exit))
after_call c answers.Unpaid = None

-- ---- Units

-- where the run stands after its next unit: none where its cost cannot be paid, and where it has ended
abbrev pub unit_at : HostEffect → Standing → Stage → Option Standing
unit_at effect s Runs = if nat_lt s.machine.gas (cost s.machine.program (moment s.machine None)) then None else Some (instructed s)
unit_at effect s (Awaits number) = if nat_lt s.machine.gas (surcharge s.machine.costs number) then None else after_call (called effect s number) (called effect s number).answer
unit_at effect s (Ended exit) = None

unfoldable pub unit_after : HostEffect → Standing → Option Standing
unit_after effect s = unit_at effect s s.stage

-- these are the standings after each unit, up to the last
abbrev pub IsUnitList : HostEffect → Standing → List Standing → Type 0
IsUnitList effect s [] = unit_after effect s ≡ None
IsUnitList effect s (u ∷ us) = (unit_after effect s ≡ Some u) × IsUnitList effect u us

-- ---- Ends

-- a run that cannot pay for its next unit is out of gas: none is left, and all else stays
abbrev pub out_of_gas : Standing → Standing
out_of_gas s = record s { machine = record s.machine { gas = 0 }; stage = Ended OutOfGas }

-- where a run stands that makes no unit more
abbrev pub stopped_at : Standing → Stage → Standing
stopped_at s Runs = out_of_gas s
stopped_at s (Awaits number) = out_of_gas s
stopped_at s (Ended exit) = s

abbrev pub stopped : Standing → Standing
stopped s = stopped_at s s.stage

abbrev pub exit_at : Stage → Option Exit
exit_at Runs = None
exit_at (Awaits number) = None
exit_at (Ended exit) = Some exit

abbrev pub has_ended : Stage → Bool
has_ended Runs = false
has_ended (Awaits number) = false
has_ended (Ended exit) = true

-- ---- Turns

-- after the next unit, or at the end where there is none
abbrev pub moved_on : Standing → Option Standing → Standing
moved_on s None = stopped s
moved_on s (Some u) = u

-- where a run stands after a turn of so many units, or at its end where that comes before
unfoldable pub advanced : ℕ → HostEffect → Standing → Standing
advanced zero effect s = s
advanced (suc n) effect s = advanced n effect (moved_on s (unit_after effect s))

abbrev pub unit_and : Option Standing → List Standing → List Standing
unit_and None us = []
unit_and (Some u) us = u ∷ us

-- the standings after each unit of such a turn
unfoldable pub units : ℕ → HostEffect → Standing → List Standing
units zero effect s = []
units (suc n) effect s = unit_and (unit_after effect s) (units n effect (moved_on s (unit_after effect s)))

-- the one unit list: each unit takes gas, so it has no more of them
abbrev pub unit_list : HostEffect → Standing → List Standing
unit_list effect s = units s.machine.gas effect s

-- what the run leaves
abbrev pub left_by : HostEffect → Standing → Standing
left_by effect s = advanced (s.machine.gas + 1) effect s

-- the last of these, or the first where there is none
abbrev pub last_standing : Standing → List Standing → Standing
last_standing s [] = s
last_standing s (u ∷ us) = last_standing u us

-- ---- More gas

-- the same with more gas left
abbrev pub longer : ℕ → Standing → Standing
longer more s = record s { machine = record s.machine { gas = s.machine.gas + more } }

abbrev pub longer_called : ℕ → Called → Called
longer_called more c = record c { machine = record c.machine { gas = c.machine.gas + more } }

-- a call that is awaited does the same with more gas, and leaves that much more. One may ask for the gas that is left, and
-- then it does not
abbrev pub CallsAlike : ℕ → HostEffect → Standing → Stage → Type 0
CallsAlike more effect s Runs = Unit {0}
CallsAlike more effect s (Awaits number) = called effect (longer more s) number ≡ longer_called more (called effect s number)
CallsAlike more effect s (Ended exit) = Unit {0}

-- so do the calls of a turn of so many units
unfoldable pub AllCallsAlike : ℕ → ℕ → HostEffect → Standing → Type 0
AllCallsAlike more zero effect s = Unit {0}
AllCallsAlike more (suc n) effect s = CallsAlike more effect s s.stage × AllCallsAlike more n effect (moved_on s (unit_after effect s))

-- ---- What the code does

-- a turn of this fuel from the first leads to the second, by so many units
pub record IsTurn (effect : HostEffect) (fuel made : ℕ) (s t : Standing) : Type 0 where
  pub here : t ≡ advanced fuel effect s
  pub count : made ≡ length (units fuel effect s)

-- after so many units, within this fuel, the rest of the fuel leads from the second where all of it leads from the first
pub record Follows (effect : HostEffect) (fuel made : ℕ) (s t : Standing) : Type 0 where
  pub within : made ≤ fuel
  pub here : advanced (fuel - made) effect t ≡ advanced fuel effect s
  pub count : made + length (units (fuel - made) effect t) ≡ length (units fuel effect s)
