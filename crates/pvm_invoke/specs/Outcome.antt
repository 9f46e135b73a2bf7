-- What a run comes to, as plain data.
use Rattle.std.specs.Prelude.{ℕ, ◌-◌, List, Some}
use Rattle.pvm_step.specs.declared.exit.Exit.{Exit}
use Rattle.pvm_step.specs.declared.exit.Exit.TheVariants.{OutOfGas}
use Rattle.pvm_step.specs.History.{output_of}
use Rattle.pvm_step.specs.Machine.{Machine, moment}
use Rattle.pvm_invoke.specs.declared.stage.Stage.{Stage}
use Rattle.pvm_invoke.specs.declared.stage.Stage.TheVariants.{Runs, Awaits, Ended}
use Rattle.pvm_invoke.specs.Turns.{Standing}

-- how it ended, the gas that it took and the gas left, the place, the registers, and the bytes that it hands out
pub record Outcome : Type 0 where
  pub exit : Exit
  pub used : ℕ
  pub left : ℕ
  pub pc : ℕ
  pub registers : List ℕ
  pub output : List ℕ

-- what the run of a machine that was given so much gas comes to, where it ends so
abbrev pub outcome_at : ℕ → Machine → Exit → Outcome
outcome_at given m exit = record {
  exit = exit;
  used = given - m.gas;
  left = m.gas;
  pc = m.pc;
  registers = m.registers;
  output = output_of (moment m (Some exit));
}

-- how a run ends that makes no unit more: as it has, or out of gas
abbrev pub ending : Stage → Exit
ending Runs = OutOfGas
ending (Awaits number) = OutOfGas
ending (Ended exit) = exit

abbrev pub run_outcome : ℕ → Standing → Outcome
run_outcome given s = outcome_at given s.machine (ending s.stage)
