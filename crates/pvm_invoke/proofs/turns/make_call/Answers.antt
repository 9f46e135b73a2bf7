use Rattle.std.proofs.Common.{◌≡◌, ◌-◌, ◌≤◌, ℕ, ap, sym, ◌∙◌, refl, arith, Some}
use Rattle.gas_ledger.specs.Schedule.{call_cost}
use Rattle.pvm_step.specs.declared.exit.Exit.TheVariants.{OutOfGas}
use Rattle.pvm_step.specs.declared.exit.HostStep.{HostStep}
use Rattle.pvm_step.specs.declared.exit.HostStep.TheVariants as answers
use Rattle.pvm_step.specs.Machine.{Machine}
use Rattle.pvm_invoke.specs.declared.stage.Stage.TheVariants.{Runs, Ended}
use Rattle.pvm_invoke.specs.Held.{Held}
use Rattle.pvm_invoke.specs.HostCall.{HostEffect}
use Rattle.pvm_invoke.specs.Turns.{stands, surcharge, charged}
use Rattle.pvm_invoke.proofs.Calling.{call_refused, call_made, stop_turn, unit_turn, unpaid_left, refused}
use Rattle.pvm_invoke.proofs.turns.make_call.Goals as goal

-- what the code pays is the surcharge
is_surcharge : (k inside : Machine) (number cost : ℕ) → cost ≡ call_cost inside.costs number → inside ≡ k → cost - 10 ≡ surcharge k.costs number
is_surcharge k inside number cost value is = ap (λ j. j - 10) (value ∙ ap (λ (m : Machine). call_cost m.costs number) is)

-- the call, as the host met it
as_met : (effect : HostEffect) (h held : Held) (number n : ℕ) (k before after : Machine) (answer step : HostStep) → before ≡ charged k n → n ≡ surcharge k.costs number
    → effect h number before ≡ record { answer = step; held = held; machine = after } → step ≡ answer
    → effect h number (charged k (surcharge k.costs number)) ≡ record { answer = answer; held = held; machine = after }
as_met effect h held number n k before after answer step paid is met answered =
    ap (effect h number) (sym (paid ∙ ap (charged k) is)) ∙ met ∙ ap (λ s. record { answer = s; held = held; machine = after }) answered

pub returns-then-not-pay-clause-turn : goal.returns-then-not-pay-clause-turn
returns-then-not-pay-clause-turn g c =
    let k : Machine = c.args.machine.now in
    let n : c.call_cost-surcharge.result - 10 ≡ surcharge k.costs c.args.number = is_surcharge k _ c.args.number c.call_cost-surcharge.result c.call_cost-surcharge.ensures.value c.machine.view_is in
    let less = refused _ (c.call_cost-surcharge.result - 10) k.gas c.if-not-pay.true c.pay.ensures.paid in
    stop_turn g.H.Host.effect k (g.H.Host.held c.args.host.now) c.args.number _ 0
    (call_refused g.H.Host.effect k (g.H.Host.held c.args.host.now) c.args.number (omega (arith, n, less)))
    (ap (λ m. stands m (g.H.Host.held c.args.host.now) (Ended OutOfGas)) (c.exhaust.ensures ∙ ap (λ (m : Machine). record m { gas = 0 }) c.if-not-pay.ensures.after))
    refl

pub returns-in-Go-clause-turn : goal.returns-in-Go-clause-turn
returns-in-Go-clause-turn g c =
    let k : Machine = c.args.machine.now in
    let h : Held = g.H.Host.held c.args.host.now in
    let held : Held = g.H.Host.held c.call.new.self in
    let n : c.call_cost-surcharge.result - 10 ≡ surcharge k.costs c.args.number = is_surcharge k _ c.args.number c.call_cost-surcharge.result c.call_cost-surcharge.ensures.value c.machine.view_is in
    let enough : c.call_cost-surcharge.result - 10 ≤ k.gas = c.if-not-pay.ensures.paid.0 refl in
    let met = as_met g.H.Host.effect h held c.args.number _ k c.pay.new.machine c.call.new.machine answers.Go c.in_ok-call.field-0 c.if-not-pay.ensures.after n c.in_ok-call.ensures.met c.in-Go.is in
    unit_turn g.H.Host.effect k h c.args.number _ 1
    (call_made g.H.Host.effect k h c.args.number (record { answer = answers.Go; held = held; machine = c.call.new.machine }) (omega (arith, n, enough)) met
    ∙ ap (λ m. Some (stands m held Runs)) (sym c.pass_ecalli.ensures))
    refl

pub returns-in-End-clause-turn : goal.returns-in-End-clause-turn
returns-in-End-clause-turn g c =
    let k : Machine = c.args.machine.now in
    let h : Held = g.H.Host.held c.args.host.now in
    let held : Held = g.H.Host.held c.call.new.self in
    let n : c.call_cost-surcharge.result - 10 ≡ surcharge k.costs c.args.number = is_surcharge k _ c.args.number c.call_cost-surcharge.result c.call_cost-surcharge.ensures.value c.machine.view_is in
    let enough : c.call_cost-surcharge.result - 10 ≤ k.gas = c.if-not-pay.ensures.paid.0 refl in
    let met = as_met g.H.Host.effect h held c.args.number _ k c.pay.new.machine c.call.new.machine (answers.End c.in-End.exit) c.in_ok-call.field-0 c.if-not-pay.ensures.after n c.in_ok-call.ensures.met c.in-End.is in
    unit_turn g.H.Host.effect k h c.args.number _ 1
    (call_made g.H.Host.effect k h c.args.number (record { answer = answers.End c.in-End.exit; held = held; machine = c.call.new.machine }) (omega (arith, n, enough)) met)
    refl

pub returns-in-Unpaid-clause-turn : goal.returns-in-Unpaid-clause-turn
returns-in-Unpaid-clause-turn g c =
    let k : Machine = c.args.machine.now in
    let h : Held = g.H.Host.held c.args.host.now in
    let held : Held = g.H.Host.held c.call.new.self in
    let n : c.call_cost-surcharge.result - 10 ≡ surcharge k.costs c.args.number = is_surcharge k _ c.args.number c.call_cost-surcharge.result c.call_cost-surcharge.ensures.value c.machine.view_is in
    let enough : c.call_cost-surcharge.result - 10 ≤ k.gas = c.if-not-pay.ensures.paid.0 refl in
    let met = as_met g.H.Host.effect h held c.args.number _ k c.pay.new.machine c.call.new.machine answers.Unpaid c.in_ok-call.field-0 c.if-not-pay.ensures.after n c.in_ok-call.ensures.met c.in-Unpaid.is in
    stop_turn g.H.Host.effect k h c.args.number _ 0
    (call_made g.H.Host.effect k h c.args.number (record { answer = answers.Unpaid; held = held; machine = c.call.new.machine }) (omega (arith, n, enough)) met)
    (unpaid_left g.H.Host.effect k h c.args.number held c.call.new.machine g.met.H.Host.lawful met)
    refl
