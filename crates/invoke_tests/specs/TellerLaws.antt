-- The calls of the host for tests are such as a host may make.
use Rattle.std.proofs.Common.{◌≡◌, ℕ, ◌-◌, ◌<◌, ◌≤◌, Bool, true, false, arith, refl, subst}
use Rattle.std.specs.Prelude.{◌==◌, nat_lt, if◌then◌else◌}
use Rattle.std.proofs.lemmas.Bool.Decides.{nat_tests}
use Rattle.pvm_step.specs.declared.exit.Exit.TheVariants.{Panic, OutOfGas}
use Rattle.pvm_step.specs.declared.exit.HostStep.TheVariants as answers
use Rattle.pvm_step.specs.Machine.{Machine}
use Rattle.pvm_invoke.specs.Held.{Held}
use Rattle.pvm_invoke.specs.HostCall.{Called, IsHostCall, StaysInPlace}
use Rattle.invoke_tests.specs.Teller.{tells, told, one_more, without_gas}

in_place : (m n : Machine) → n.program ≡ m.program → n.pc ≡ m.pc → n.heap ≡ m.heap → n.costs ≡ m.costs → StaysInPlace m n
in_place m n program pc heap costs = record { program = program; pc = pc; heap = heap; costs = costs }

by_number : (h : Held) (m : Machine) → nat_lt m.gas 10 ≡ false → (one two three : Bool) → IsHostCall h m
    (if one then record { answer = answers.End Panic; held = record h { slot = one_more h.slot }; machine = record m { gas = m.gas - 10 } }
    else if two then record { answer = answers.End OutOfGas; held = record h { slot = one_more h.slot }; machine = without_gas m }
    else if three then record { answer = answers.Unpaid; held = h; machine = without_gas m }
    else record { answer = answers.Go; held = record h { slot = one_more h.slot }; machine = told h.slot m })
by_number h m enough true two three =
    let some : 10 ≤ m.gas = grind (arith, nat_tests, enough) in
    record { stays = in_place m _ refl refl refl refl; answered = (omega (arith, some), tt) }
by_number h m enough false true three =
    let some : 10 ≤ m.gas = grind (arith, nat_tests, enough) in
    record { stays = in_place m _ refl refl refl refl; answered = (omega (arith, some), tt) }
by_number h m enough false false true = record { stays = in_place m _ refl refl refl refl; answered = (refl, refl) }
by_number h m enough false false false =
    let some : 10 ≤ m.gas = grind (arith, nat_tests, enough) in
    record { stays = in_place m _ refl refl refl refl; answered = omega (arith, some) }

by_gas : (h : Held) (m : Machine) (number : ℕ) (short : Bool) → nat_lt m.gas 10 ≡ short → IsHostCall h m
    (if short then record { answer = answers.Unpaid; held = h; machine = without_gas m }
    else if number == 1 then record { answer = answers.End Panic; held = record h { slot = one_more h.slot }; machine = record m { gas = m.gas - 10 } }
    else if number == 2 then record { answer = answers.End OutOfGas; held = record h { slot = one_more h.slot }; machine = without_gas m }
    else if number == 3 then record { answer = answers.Unpaid; held = h; machine = without_gas m }
    else record { answer = answers.Go; held = record h { slot = one_more h.slot }; machine = told h.slot m })
by_gas h m number true is = record { stays = in_place m _ refl refl refl refl; answered = (refl, refl) }
by_gas h m number false is = by_number h m is (number == 1) (number == 2) (number == 3)

pub tells-lawful : (h : Held) (number : ℕ) (m : Machine) → IsHostCall h m (tells h number m)
unfolding tells
tells-lawful h number m = by_gas h m number (nat_lt m.gas 10) refl
