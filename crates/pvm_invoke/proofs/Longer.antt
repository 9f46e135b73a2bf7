-- Turns with more gas.
use Rattle.std.proofs.Common.{◌≡◌, ℕ, zero, suc, ◌+◌, ◌-◌, ◌≤◌, ◌∷◌, length, arith, ap, sym, ◌∙◌, refl, subst, false, Option, Some, None}
use Rattle.std.specs.Prelude.{if◌then◌else◌, nat_lt}
use Rattle.std.proofs.lemmas.Bool.{le-ltb}
use Rattle.std.proofs.lemmas.Bool.Decides.{nat_tests}
use Rattle.blob_decode.specs.Program.{Program}
use Rattle.pvm_step.specs.declared.exit.HostStep.{HostStep}
use Rattle.pvm_step.specs.declared.exit.HostStep.TheVariants as answers
use Rattle.pvm_step.specs.Effect.{effect}
use Rattle.pvm_step.specs.History.{Moment, cost, step, gain}
use Rattle.pvm_step.specs.Machine.{moment}
use Rattle.pvm_invoke.specs.declared.stage.Stage.{Stage}
use Rattle.pvm_invoke.specs.declared.stage.Stage.TheVariants.{Runs, Awaits, Ended}
use Rattle.pvm_invoke.specs.HostCall.{Called, HostEffect}
use Rattle.pvm_invoke.specs.Turns.{Standing, stands, at_moment, instructed, surcharge, called, after_call, unit_at, unit_after, moved_on, advanced, units, longer, longer_called, CallsAlike, AllCallsAlike}
use Rattle.pvm_invoke.proofs.Steps.{step-paid}
use Rattle.pvm_invoke.proofs.Following.{advanced-none, units-stop, advanced-more, units-more}
use Rattle.pvm_invoke.proofs.Paid.{chosen}

step-gain : (p : Program) (m : Moment) (more : ℕ) → nat_lt m.gas (cost p m) ≡ false → step p (gain more m) ≡ gain more (step p m)
step-gain p m more enough =
    let some : cost p m ≤ m.gas = grind (arith, nat_tests, enough) in
    let left : m.gas + more - cost p m ≡ m.gas - cost p m + more = omega (arith, some) in
    step-paid p (gain more m) (le-ltb (m.gas + more) (cost p m) (omega (arith, some)))
    ∙ ap (λ g. record m { state = (effect p m.state).state; gas = g; exit = (effect p m.state).exit }) left
    ∙ sym (ap (gain more) (step-paid p m enough))

longer_call : (more : ℕ) (c : Called) (answer : HostStep) (u : Standing) → after_call c answer ≡ Some u → after_call (longer_called more c) answer ≡ Some (longer more u)
longer_call more c answers.Go u some = let same : stands _ c.held Runs ≡ u = cc some in ap (λ v. Some (longer more v)) same
longer_call more c (answers.End exit) u some = let same : stands c.machine c.held (Ended exit) ≡ u = cc some in ap (λ v. Some (longer more v)) same
longer_call more c answers.Unpaid u some = absurd (cc some)

longer_at : (more : ℕ) (effect : HostEffect) (s u : Standing) (stage : Stage) → CallsAlike more effect s stage → unit_at effect s stage ≡ Some u → unit_at effect (longer more s) stage ≡ Some (longer more u)
longer_at more effect s u Runs alike some =
    let first : Moment = moment s.machine None in
    let by = chosen (nat_lt s.machine.gas (cost s.machine.program first)) (Some (instructed s)) u some in
    let enough : cost s.machine.program first ≤ s.machine.gas = grind (arith, nat_tests, by.0) in
    let same : instructed s ≡ u = cc (by.1) in
    ap (λ b. if b then None else Some (instructed (longer more s))) (le-ltb (s.machine.gas + more) (cost s.machine.program first) (omega (arith, enough)))
    ∙ ap (λ (m : Moment). Some (at_moment s.machine s.held m)) (step-gain s.machine.program first more by.0)
    ∙ ap (λ v. Some (longer more v)) same
longer_at more effect s u (Awaits number) alike some =
    let by = chosen (nat_lt s.machine.gas (surcharge s.machine.costs number)) (after_call (called effect s number) (called effect s number).answer) u some in
    let enough : surcharge s.machine.costs number ≤ s.machine.gas = grind (arith, nat_tests, by.0) in
    ap (λ b. if b then None else after_call (called effect (longer more s) number) (called effect (longer more s) number).answer) (le-ltb (s.machine.gas + more) (surcharge s.machine.costs number) (omega (arith, enough)))
    ∙ ap (λ (c : Called). after_call c c.answer) alike
    ∙ longer_call more (called effect s number) (called effect s number).answer u by.1
longer_at more effect s u (Ended exit) alike some = absurd (cc some)

longer_unit : (more : ℕ) (effect : HostEffect) (s u : Standing) → CallsAlike more effect s s.stage → unit_after effect s ≡ Some u → unit_after effect (longer more s) ≡ Some (longer more u)
unfolding unit_after
longer_unit more effect s u alike some = longer_at more effect s u s.stage alike some

alike-suc : (more n : ℕ) (effect : HostEffect) (s : Standing) → AllCallsAlike more (suc n) effect s → CallsAlike more effect s s.stage × AllCallsAlike more n effect (moved_on s (unit_after effect s))
unfolding AllCallsAlike
alike-suc more n effect s alike = alike

more_gas_by : (more n : ℕ) (effect : HostEffect) (s : Standing) (o : Option Standing) → unit_after effect s ≡ o → length (units (suc n) effect s) ≡ suc n → AllCallsAlike more (suc n) effect s
    → ((u : Standing) → length (units n effect u) ≡ n → AllCallsAlike more n effect u → advanced n effect (longer more u) ≡ longer more (advanced n effect u))
    → advanced (suc n) effect (longer more s) ≡ longer more (advanced (suc n) effect s)
more_gas_by more n effect s None is made alike rest =
    let none : length (units (suc n) effect s) ≡ 0 = ap length (units-stop n effect s is) in absurd (omega (arith, none, made))
more_gas_by more n effect s (Some u) is made alike rest =
    let parts = alike-suc more n effect s alike in
    let count : length (units (suc n) effect s) ≡ length (u ∷ units n effect u) = ap length (units-more n effect s u is) in
    let on : AllCallsAlike more n effect u = subst (λ o. AllCallsAlike more n effect (moved_on s o)) is parts.1 in
    advanced-more n effect (longer more s) (longer more u) (longer_unit more effect s u parts.0 is)
    ∙ rest u (omega (arith, count, made)) on
    ∙ sym (ap (longer more) (advanced-more n effect s u is))

pub more_gas : (more n : ℕ) (effect : HostEffect) (s : Standing) → length (units n effect s) ≡ n → AllCallsAlike more n effect s → advanced n effect (longer more s) ≡ longer more (advanced n effect s)
more_gas more zero effect s made alike = advanced-none effect (longer more s) ∙ sym (ap (longer more) (advanced-none effect s))
more_gas more (suc n) effect s made alike = more_gas_by more n effect s (unit_after effect s) refl made alike (more_gas more n effect)
