-- Each unit takes gas.
use Rattle.std.proofs.Common.{◌≡◌, ℕ, zero, suc, ◌+◌, ◌-◌, ◌≤◌, List, [], ◌∷◌, length, arith, ap, sym, ◌∙◌, refl, subst, Bool, true, false, Option, Some, None}
use Rattle.std.specs.Prelude.{if◌then◌else◌, nat_lt}
use Rattle.std.proofs.lemmas.Bool.Decides.{nat_tests}
use Rattle.gas_ledger.specs.Schedule.{IsSchedule}
use Rattle.pvm_step.specs.declared.exit.HostStep.{HostStep}
use Rattle.pvm_step.specs.declared.exit.HostStep.TheVariants as answers
use Rattle.pvm_step.specs.History.{Moment, cost, step}
use Rattle.pvm_step.specs.Machine.{Machine, moment}
use Rattle.pvm_invoke.specs.declared.stage.Stage.{Stage}
use Rattle.pvm_invoke.specs.declared.stage.Stage.TheVariants.{Runs, Awaits, Ended}
use Rattle.pvm_invoke.specs.HostCall.{Called, HostEffect, IsHostEffect, IsHostCall, IsAnswered}
use Rattle.pvm_invoke.specs.Turns.{Standing, stands, instructed, surcharge, charged, called, passed, after_call, unit_at, unit_after, IsUnitList, stopped_at, stopped, advanced, units, last_standing}
use Rattle.pvm_invoke.proofs.Steps.{step-paid, cost-paid}
use Rattle.pvm_invoke.proofs.Following.{advanced-none, units-none, advanced-stop, units-stop, advanced-more, units-more}

-- a unit takes gas, and leaves the schedule
pub record Pays (s u : Standing) : Type 0 where
  gas : u.machine.gas + 1 ≤ s.machine.gas
  costs : u.machine.costs ≡ s.machine.costs

-- by the test of its cost
pub chosen : {A : Type 0} (b : Bool) (o : Option A) (x : A) → (if b then None else o) ≡ Some x → (b ≡ false) × (o ≡ Some x)
chosen true o x is = absurd (cc is)
chosen false o x is = (refl, is)

instruction_pays : (s u : Standing) → IsSchedule s.machine.costs → (if nat_lt s.machine.gas (cost s.machine.program (moment s.machine None)) then None else Some (instructed s)) ≡ Some u → Pays s u
instruction_pays s u is some =
    let by = chosen (nat_lt s.machine.gas (cost s.machine.program (moment s.machine None))) (Some (instructed s)) u some in
    let first : Moment = moment s.machine None in
    let same : instructed s ≡ u = cc (by.1) in
    let gas : (step s.machine.program first).gas ≡ s.machine.gas - cost s.machine.program first = ap (λ (m : Moment). m.gas) (step-paid s.machine.program first by.0) in
    let there : u.machine.gas ≡ (step s.machine.program first).gas = sym (ap (λ (v : Standing). v.machine.gas) same) in
    let costs : (step s.machine.program first).costs ≡ s.machine.costs = ap (λ (m : Moment). m.costs) (step-paid s.machine.program first by.0) in
    let enough : cost s.machine.program first ≤ s.machine.gas = grind (arith, nat_tests, by.0) in
    record {
      gas = omega (arith, gas, there, enough, cost-paid s.machine.program first is);
      costs = sym (ap (λ (v : Standing). v.machine.costs) same) ∙ costs;
    }

call_pays_by : (s u : Standing) (m : Machine) (c : Called) (answer : HostStep) → m.gas ≤ s.machine.gas → m.costs ≡ s.machine.costs → c.machine.costs ≡ m.costs
    → IsAnswered s.held m c answer → after_call c answer ≡ Some u → Pays s u
call_pays_by s u m c answers.Go less costs kept answered some =
    let same : stands (passed c.machine) c.held Runs ≡ u = cc some in
    let there : c.machine.gas ≡ u.machine.gas = ap (λ (v : Standing). v.machine.gas) same in
    record { gas = omega (arith, answered, there, less); costs = sym (ap (λ (v : Standing). v.machine.costs) same) ∙ kept ∙ costs }
call_pays_by s u m c (answers.End exit) less costs kept answered some =
    let same : stands c.machine c.held (Ended exit) ≡ u = cc some in
    let there : c.machine.gas ≡ u.machine.gas = ap (λ (v : Standing). v.machine.gas) same in
    record { gas = omega (arith, answered.0, there, less); costs = sym (ap (λ (v : Standing). v.machine.costs) same) ∙ kept ∙ costs }
call_pays_by s u m c answers.Unpaid less costs kept answered some = absurd (cc some)

call_pays : (effect : HostEffect) (s u : Standing) (number : ℕ) → IsHostEffect effect
    → (if nat_lt s.machine.gas (surcharge s.machine.costs number) then None else after_call (called effect s number) (called effect s number).answer) ≡ Some u → Pays s u
call_pays effect s u number lawful some =
    let by = chosen (nat_lt s.machine.gas (surcharge s.machine.costs number)) (after_call (called effect s number) (called effect s number).answer) u some in
    let before : Machine = charged s.machine (surcharge s.machine.costs number) in
    let is : IsHostCall s.held before (called effect s number) = lawful s.held number before in
    call_pays_by s u before (called effect s number) (called effect s number).answer (omega arith) refl is.stays.costs is.answered by.1

unit_pays_at : (effect : HostEffect) (s u : Standing) (stage : Stage) → IsHostEffect effect → IsSchedule s.machine.costs → unit_at effect s stage ≡ Some u → Pays s u
unit_pays_at effect s u Runs lawful is some = instruction_pays s u is some
unit_pays_at effect s u (Awaits number) lawful is some = call_pays effect s u number lawful some
unit_pays_at effect s u (Ended exit) lawful is some = absurd (cc some)

pub unit_pays : (effect : HostEffect) (s u : Standing) → IsHostEffect effect → IsSchedule s.machine.costs → unit_after effect s ≡ Some u → Pays s u
unfolding unit_after
unit_pays effect s u lawful is some = unit_pays_at effect s u s.stage lawful is some

paid-schedule : (s u : Standing) → Pays s u → IsSchedule s.machine.costs → IsSchedule u.machine.costs
paid-schedule s u pays is = subst IsSchedule (sym pays.costs) is

-- an end takes what is left, or nothing
stopped-gas_at : (s : Standing) (stage : Stage) → (stopped_at s stage).machine.gas ≤ s.machine.gas
stopped-gas_at s Runs = omega arith
stopped-gas_at s (Awaits number) = omega arith
stopped-gas_at s (Ended e) = omega arith

stopped-costs_at : (s : Standing) (stage : Stage) → (stopped_at s stage).machine.costs ≡ s.machine.costs
stopped-costs_at s Runs = refl
stopped-costs_at s (Awaits number) = refl
stopped-costs_at s (Ended e) = refl

-- ---- Turns

turn_paid_by : (n : ℕ) (effect : HostEffect) (s : Standing) (o : Option Standing) → unit_after effect s ≡ o → IsHostEffect effect → IsSchedule s.machine.costs
    → ((u : Standing) → IsSchedule u.machine.costs → length (units n effect u) + (advanced n effect u).machine.gas ≤ u.machine.gas)
    → length (units (suc n) effect s) + (advanced (suc n) effect s).machine.gas ≤ s.machine.gas
turn_paid_by n effect s None is lawful costs rest =
    let none : length (units (suc n) effect s) ≡ 0 = ap length (units-stop n effect s is) in
    let end : (advanced (suc n) effect s).machine.gas ≡ (stopped s).machine.gas = ap (λ (t : Standing). t.machine.gas) (advanced-stop n effect s is) in
    omega (arith, none, end, stopped-gas_at s s.stage)
turn_paid_by n effect s (Some u) is lawful costs rest =
    let pays : Pays s u = unit_pays effect s u lawful costs is in
    let more : length (units (suc n) effect s) ≡ length (u ∷ units n effect u) = ap length (units-more n effect s u is) in
    let on : (advanced (suc n) effect s).machine.gas ≡ (advanced n effect u).machine.gas = ap (λ (t : Standing). t.machine.gas) (advanced-more n effect s u is) in
    omega (arith, more, on, pays.gas, rest u (paid-schedule s u pays costs))

pub turn_paid : (n : ℕ) (effect : HostEffect) (s : Standing) → IsHostEffect effect → IsSchedule s.machine.costs → length (units n effect s) + (advanced n effect s).machine.gas ≤ s.machine.gas
turn_paid zero effect s lawful costs =
    let none : length (units 0 effect s) ≡ 0 = ap length (units-none effect s) in
    let same : (advanced 0 effect s).machine.gas ≡ s.machine.gas = ap (λ (t : Standing). t.machine.gas) (advanced-none effect s) in
    omega (arith, none, same)
turn_paid (suc n) effect s lawful costs = turn_paid_by n effect s (unit_after effect s) refl lawful costs (λ u is. turn_paid n effect u lawful is)

turn_costs_by : (n : ℕ) (effect : HostEffect) (s : Standing) (o : Option Standing) → unit_after effect s ≡ o → IsHostEffect effect → IsSchedule s.machine.costs
    → ((u : Standing) → IsSchedule u.machine.costs → (advanced n effect u).machine.costs ≡ u.machine.costs) → (advanced (suc n) effect s).machine.costs ≡ s.machine.costs
turn_costs_by n effect s None is lawful costs rest = ap (λ (t : Standing). t.machine.costs) (advanced-stop n effect s is) ∙ stopped-costs_at s s.stage
turn_costs_by n effect s (Some u) is lawful costs rest =
    let pays : Pays s u = unit_pays effect s u lawful costs is in
    ap (λ (t : Standing). t.machine.costs) (advanced-more n effect s u is) ∙ rest u (paid-schedule s u pays costs) ∙ pays.costs

pub turn_costs : (n : ℕ) (effect : HostEffect) (s : Standing) → IsHostEffect effect → IsSchedule s.machine.costs → (advanced n effect s).machine.costs ≡ s.machine.costs
turn_costs zero effect s lawful costs = ap (λ (t : Standing). t.machine.costs) (advanced-none effect s)
turn_costs (suc n) effect s lawful costs = turn_costs_by n effect s (unit_after effect s) refl lawful costs (λ u is. turn_costs n effect u lawful is)

-- ---- Lists

-- so there are no more units than gas
pub list_paid : (effect : HostEffect) (s : Standing) (us : List Standing) → IsHostEffect effect → IsSchedule s.machine.costs → IsUnitList effect s us → length us + (last_standing s us).machine.gas ≤ s.machine.gas
list_paid effect s [] lawful costs list = omega arith
list_paid effect s (u ∷ us) lawful costs list =
    let pays : Pays s u = unit_pays effect s u lawful costs list.0 in
    omega (arith, pays.gas, list_paid effect u us lawful (paid-schedule s u pays costs) list.1)

-- and as many as the gas are all
whole_by : (n : ℕ) (effect : HostEffect) (s : Standing) (o : Option Standing) → unit_after effect s ≡ o → IsHostEffect effect → IsSchedule s.machine.costs → s.machine.gas ≤ suc n
    → ((u : Standing) → IsSchedule u.machine.costs → u.machine.gas ≤ n → IsUnitList effect u (units n effect u)) → IsUnitList effect s (units (suc n) effect s)
whole_by n effect s None is lawful costs less rest = subst (IsUnitList effect s) (sym (units-stop n effect s is)) is
whole_by n effect s (Some u) is lawful costs less rest =
    let pays : Pays s u = unit_pays effect s u lawful costs is in
    subst (IsUnitList effect s) (sym (units-more n effect s u is)) (is, rest u (paid-schedule s u pays costs) (omega (arith, pays.gas, less)))

none_by : (effect : HostEffect) (s : Standing) (o : Option Standing) → unit_after effect s ≡ o → IsHostEffect effect → IsSchedule s.machine.costs → s.machine.gas ≤ 0 → unit_after effect s ≡ None
none_by effect s None is lawful costs less = is
none_by effect s (Some u) is lawful costs less = let pays : Pays s u = unit_pays effect s u lawful costs is in absurd (omega (arith, pays.gas, less))

pub whole : (n : ℕ) (effect : HostEffect) (s : Standing) → IsHostEffect effect → IsSchedule s.machine.costs → s.machine.gas ≤ n → IsUnitList effect s (units n effect s)
whole zero effect s lawful costs less = subst (IsUnitList effect s) (sym (units-none effect s)) (none_by effect s (unit_after effect s) refl lawful costs less)
whole (suc n) effect s lawful costs less = whole_by n effect s (unit_after effect s) refl lawful costs less (λ u is fewer. whole n effect u lawful is fewer)
