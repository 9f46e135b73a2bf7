-- An invocation of the code as the definitions see it.
use Rattle.std.specs.Prelude.{◌≡◌, ℕ, ◌<◌, ◌⊎◌, Bool, true, false}
use Rattle.pvm_isa.specs.declared.op.Op.TheVariants.{Ecalli}
use Rattle.blob_decode.specs.Program.{op_at}
use Rattle.pvm_step.specs.Machine.{Machine}
use Rattle.pvm_invoke.specs.declared.stage.Stage.{Stage}
use Rattle.pvm_invoke.specs.declared.stage.Stage.TheVariants.{Runs, Awaits, Ended}
use Rattle.pvm_invoke.specs.Turns.{Standing, has_ended}

-- where its run stands, the gas that it began with, and whether it found no memory once
pub record Invocation : Type 0 where
  pub run : Standing
  pub given : ℕ
  pub is_spent : Bool

-- a machine that awaits a host call stands at an ecalli
abbrev pub IsAtCall : Machine → Stage → Type 0
IsAtCall m Runs = Unit {0}
IsAtCall m (Awaits number) = op_at m.program m.pc ≡ Ecalli
IsAtCall m (Ended exit) = Unit {0}

-- what an invocation keeps: it stands at the ecalli of the call that it awaits, and one that was lost has not ended
pub record IsKeptRun (m : Machine) (stage : Stage) (is_spent : Bool) : Type 0 where
  pub at_call : IsAtCall m stage
  pub lost : is_spent ≡ true → has_ended stage ≡ false

-- there was a unit, or it was the end
abbrev pub HasMoved : ℕ → Stage → Type 0
HasMoved made stage = (0 < made) ⊎ (has_ended stage ≡ true)
