-- A host for tests, which counts its calls.
use Rattle.std.specs.Prelude.{ℕ, ◌+◌, ◌-◌, ◌%◌, ◌^◌, ◌==◌, nat_lt, List, [], None, set, replicate, if◌then◌else◌}
use Rattle.std.specs.FinMap as fin
use Rattle.account_context.specs.Context.{started}
use Rattle.pvm_step.specs.declared.exit.Exit.TheVariants.{Panic, OutOfGas}
use Rattle.pvm_step.specs.declared.exit.HostStep.TheVariants as answers
use Rattle.pvm_step.specs.Machine.{Machine}
use Rattle.pvm_invoke.specs.Held.{Held}
use Rattle.pvm_invoke.specs.HostCall.{Called}

-- it holds nothing but the number of its calls, which stands for the slot
abbrev pub teller_holds : ℕ → Held
teller_holds calls = record {
  pair = started fin.empty 0 (replicate 32 0) 0;
  slot = calls;
  entropy = [];
  payload = None;
  pieces = [];
  lookup_slot = 0;
  exports = [];
  machines = fin.empty;
}

abbrev pub one_more : ℕ → ℕ
one_more calls = (calls + 1) % 2 ^ 64

abbrev pub without_gas : Machine → Machine
without_gas m = record m { gas = 0 }

-- the next number of a call goes to register 7
abbrev pub told : ℕ → Machine → Machine
told calls m = record m { gas = m.gas - 10; registers = set m.registers 7 (one_more calls) }

-- Number 1 panics, 2 is out of gas, and 3 is never paid; any other goes on.
unfoldable pub tells : Held → ℕ → Machine → Called
tells h number m = if nat_lt m.gas 10 then record { answer = answers.Unpaid; held = h; machine = without_gas m }
    else if number == 1 then record { answer = answers.End Panic; held = record h { slot = one_more h.slot }; machine = record m { gas = m.gas - 10 } }
    else if number == 2 then record { answer = answers.End OutOfGas; held = record h { slot = one_more h.slot }; machine = without_gas m }
    else if number == 3 then record { answer = answers.Unpaid; held = h; machine = without_gas m }
    else record { answer = answers.Go; held = record h { slot = one_more h.slot }; machine = told h.slot m }
