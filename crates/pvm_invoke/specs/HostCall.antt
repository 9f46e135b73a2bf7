-- What a host call leaves, as a function of what the host holds, the number of the call and the machine.
use Rattle.std.specs.Prelude.{◌≡◌, ℕ, ◌<◌}
use Rattle.pvm_step.specs.declared.exit.Exit.{Exit}
use Rattle.pvm_step.specs.declared.exit.Exit.TheVariants.{Halt, Panic, OutOfGas, Fault, Host}
use Rattle.pvm_step.specs.declared.exit.HostStep.{HostStep}
use Rattle.pvm_step.specs.declared.exit.HostStep.TheVariants as answers
use Rattle.pvm_step.specs.Machine.{Machine}
use Rattle.pvm_invoke.specs.Held.{Held}

-- its answer, what the host holds after it, and the machine after it
pub record Called : Type 0 where
  pub answer : HostStep
  pub held : Held
  pub machine : Machine

abbrev pub HostEffect : Type 0
HostEffect = Held → ℕ → Machine → Called

-- ---- What holds of the calls of every host

-- a call leaves the program, the place, the heap and the schedule
pub record StaysInPlace (m n : Machine) : Type 0 where
  pub program : n.program ≡ m.program
  pub pc : n.pc ≡ m.pc
  pub heap : n.heap ≡ m.heap
  pub costs : n.costs ≡ m.costs

-- a call may end a run by a panic, or out of gas where a machine that it ran used up all
abbrev pub EndsCall : Exit → Type 0
EndsCall Halt = ⊥
EndsCall Panic = Unit {0}
EndsCall OutOfGas = Unit {0}
EndsCall (Fault address) = ⊥
EndsCall (Host number) = ⊥

-- where its cost could not be paid, no gas is left and nothing else was done; any other call has taken gas
abbrev pub IsAnswered : Held → Machine → Called → HostStep → Type 0
IsAnswered h m c answers.Go = c.machine.gas < m.gas
IsAnswered h m c (answers.End exit) = (c.machine.gas < m.gas) × EndsCall exit
IsAnswered h m c answers.Unpaid = (c.held ≡ h) × (c.machine ≡ record m { gas = 0 })

pub record IsHostCall (h : Held) (m : Machine) (c : Called) : Type 0 where
  pub stays : StaysInPlace m c.machine
  pub answered : IsAnswered h m c c.answer

abbrev pub IsHostEffect : HostEffect → Type 0
IsHostEffect effect = (h : Held) (number : ℕ) (m : Machine) → IsHostCall h m (effect h number m)
