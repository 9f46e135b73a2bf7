use Rattle.std.proofs.Common.{◌≡◌, ◌<◌, ℕ, true, Option, None, ap, subst, ◌∙◌, refl}
use Rattle.pvm_step.specs.declared.exit.Exit.{Exit}
use Rattle.pvm_step.specs.Effect.{act_at}
use Rattle.pvm_step.specs.History.{step, reached}
use Rattle.pvm_step.specs.Machine.{Machine, state_of, moment, with_gas}
use Rattle.pvm_step.specs.Named.{changes_memory}
use Rattle.pvm_step.proofs.Turns.{one_step, none_made, on_ok, on_err}
use Rattle.pvm_step.proofs.machine.Machine.step.Goals as goal

pub returns-clause-step : goal.returns-clause-step
returns-clause-step c =
    let was = c.args.self.now in
    let now = c.go_on_schedule-left.new.self in
    let left : ℕ = c.go_on_schedule-left.result.0 in
    on_ok (λ exit. with_gas now left exit ≡ reached 1 was.program (moment was None)) (λ exit. moment c.pay.new.self exit ≡ step was.program (moment was None)) c.go_on_schedule-left.result.1
    (λ (exit : Option Exit) made. ap (λ (m : Machine). moment m exit) c.pay.ensures.paid ∙ made ∙ one_step was.program (moment was None) refl) c.go_on_schedule-left.ensures.reached

pub returns-clause-err : goal.returns-clause-err
returns-clause-err c =
    let was = c.args.self.now in
    let now = c.go_on_schedule-left.new.self in
    let left : ℕ = c.go_on_schedule-left.result.0 in
    on_err ((n : ℕ) × (n < 1) × (with_gas now left None ≡ reached n was.program (moment was None))) (changes_memory (act_at now.program (state_of now)) ≡ true) (c.pay.new.self ≡ was)
    c.go_on_schedule-left.result.1 (λ made _. c.pay.ensures.paid ∙ none_made was now left made.0 made.1 c.go_on_schedule-left.ensures.rest made.2)
    c.go_on_schedule-left.ensures.err c.go_on_schedule-left.ensures.wants

pub returns-clause-wants : goal.returns-clause-wants
returns-clause-wants c =
    let was = c.args.self.now in
    let now = c.go_on_schedule-left.new.self in
    let left : ℕ = c.go_on_schedule-left.result.0 in
    on_err ((n : ℕ) × (n < 1) × (with_gas now left None ≡ reached n was.program (moment was None))) (changes_memory (act_at now.program (state_of now)) ≡ true)
    (changes_memory (act_at was.program (state_of was)) ≡ true) c.go_on_schedule-left.result.1
    (λ made wants. subst (λ (m : Machine). changes_memory (act_at m.program (state_of m)) ≡ true) (none_made was now left made.0 made.1 c.go_on_schedule-left.ensures.rest made.2) wants)
    c.go_on_schedule-left.ensures.err c.go_on_schedule-left.ensures.wants
