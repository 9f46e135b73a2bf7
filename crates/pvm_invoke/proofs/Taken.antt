-- What a turn of the code tells.
use Rattle.std.proofs.Common.{◌≡◌, ℕ, ◌+◌, ◌≤◌, length, drop, arith, ap, sym, ◌∙◌, refl, subst, false}
use Rattle.std.specs.Prelude.{◌↔◌}
use Rattle.gas_ledger.specs.Schedule.{IsSchedule}
use Rattle.pvm_step.specs.declared.exit.Progress.{Progress}
use Rattle.pvm_step.specs.declared.exit.Progress.TheVariants as run
use Rattle.pvm_step.specs.Machine.{exit_in}
use Rattle.pvm_invoke.specs.declared.stage.Stage.{Stage}
use Rattle.pvm_invoke.specs.declared.stage.Stage.TheVariants.{Runs, Awaits, Ended}
use Rattle.pvm_invoke.specs.HostCall.{HostEffect, IsHostEffect}
use Rattle.pvm_invoke.specs.Turns.{Standing, exit_at, has_ended, advanced, units, unit_list, left_by, last_standing, IsTurn}
use Rattle.pvm_invoke.proofs.Paid.{turn_paid}
use Rattle.pvm_invoke.proofs.Lists.{pauses, leaves, list_left}

paused_where : (progress : Progress) (stage : Stage) → exit_in progress ≡ exit_at stage → (progress ≡ run.Paused) ↔ (has_ended stage ≡ false)
paused_where run.Paused Runs is = ((λ _. refl), (λ _. refl))
paused_where run.Paused (Awaits number) is = ((λ _. refl), (λ _. refl))
paused_where run.Paused (Ended exit) is = absurd (cc is)
paused_where (run.Ended exit) Runs is = absurd (cc is)
paused_where (run.Ended exit) (Awaits number) is = absurd (cc is)
paused_where (run.Ended exit) (Ended end) is = ((λ paused. absurd (cc paused)), (λ going. absurd (cc going)))

-- the turn of what is inside an invocation is that of its run
module _ (effect : HostEffect) (fuel made : ℕ) (inside s t : Standing) (turn : IsTurn effect fuel made inside t) (is : inside ≡ s) where
  here : t ≡ advanced fuel effect s
  here = turn.here ∙ ap (advanced fuel effect) is

  count : made ≡ length (units fuel effect s)
  count = turn.count ∙ ap (λ x. length (units fuel effect x)) is

  pub taken_paused : (progress : Progress) → exit_in progress ≡ exit_at t.stage
      → (progress ≡ run.Paused) ↔ ((made ≡ fuel) × (has_ended (last_standing s (units fuel effect s)).stage ≡ false))
  taken_paused progress exit =
      let where_paused : (progress ≡ run.Paused) ↔ (has_ended t.stage ≡ false) = paused_where progress t.stage exit in
      let by_units = pauses fuel effect s in (
        (λ paused.
            let all = by_units.0 (sym (ap (λ (x : Standing). has_ended x.stage) here) ∙ where_paused.0 paused) in
            (count ∙ all.0, all.1)),
        (λ all. where_paused.1 (ap (λ (x : Standing). has_ended x.stage) here ∙ by_units.1 (sym count ∙ all.0, all.1))),
      )

  module _ (lawful : IsHostEffect effect) (costs : IsSchedule inside.machine.costs) where
    schedule : IsSchedule s.machine.costs
    schedule = subst (λ (x : Standing). IsSchedule x.machine.costs) is costs

    pub taken_paid : made + t.machine.gas ≤ s.machine.gas
    taken_paid =
        let left : t.machine.gas ≡ (advanced fuel effect s).machine.gas = ap (λ (x : Standing). x.machine.gas) here in
        omega (arith, left, count, turn_paid fuel effect s lawful schedule)

    pub taken_list : unit_list effect t ≡ drop fuel (unit_list effect s)
    taken_list = ap (unit_list effect) here ∙ list_left fuel effect s lawful schedule

    pub taken_leaves : left_by effect t ≡ left_by effect s
    taken_leaves = ap (left_by effect) here ∙ leaves fuel effect s lawful schedule
