use Rattle.std.proofs.Common.{◌≡◌, ap, sym, ◌∙◌, refl, arith, None, Some}
use Rattle.pvm_step.specs.History.{Moment, reached}
use Rattle.pvm_step.specs.Machine.{moment, exit_in}
use Rattle.pvm_step.proofs.RunEnds.{ended-answer, ended-told, paused-gas, paused-told}
use Rattle.pvm_step.proofs.Watched.{told-same}
use Rattle.pvm_step.proofs.machine.Machine.run_to_end.Goals as goal

pub returns-in-Ended-clause-answer : goal.returns-in-Ended-clause-answer
returns-in-Ended-clause-answer g c =
    let here : moment c.run_watched.new.self (Some c.in-Ended.exit) ≡ reached 18446744073709551615 c.args.self.now.program (moment c.args.self.now None) =
    ap (λ o. moment c.run_watched.new.self (exit_in o)) (sym c.in-Ended.is) ∙ c.in_ok-exit.ensures.reached in
    here
    ∙ ended-answer 18446744073709551615 c.args.self.now.program (moment c.args.self.now None) c.run_watched.ensures.schedule (omega (arith, c.run_watched.ensures.gas))
    c.in-Ended.exit (ap (λ (m : Moment). m.exit) (sym here))

pub returns-in-Ended-clause-told : goal.returns-in-Ended-clause-told
returns-in-Ended-clause-told g c =
    let here : moment c.run_watched.new.self (Some c.in-Ended.exit) ≡ reached 18446744073709551615 c.args.self.now.program (moment c.args.self.now None) =
    ap (λ o. moment c.run_watched.new.self (exit_in o)) (sym c.in-Ended.is) ∙ c.in_ok-exit.ensures.reached in
    told-same g.W.Watcher.HasSeen c.args.watcher.now c.run_watched.new.watcher _ _
    (ended-told 18446744073709551615 c.args.self.now.program (moment c.args.self.now None) c.run_watched.ensures.schedule (omega (arith, c.run_watched.ensures.gas))
    c.in-Ended.exit (ap (λ (m : Moment). m.exit) (sym here)))
    c.in_ok-exit.ensures.told

pub returns-in-Paused-clause-answer : goal.returns-in-Paused-clause-answer
returns-in-Paused-clause-answer g c =
    let here : moment c.run_watched.new.self None ≡ reached 18446744073709551615 c.args.self.now.program (moment c.args.self.now None) =
    ap (λ o. moment c.run_watched.new.self (exit_in o)) (sym c.in-Paused.is) ∙ c.in_ok-exit.ensures.reached in
    paused-gas 18446744073709551615 c.args.self.now.program (moment c.args.self.now None) c.run_watched.ensures.schedule (omega (arith, c.run_watched.ensures.gas))
    (moment c.run_watched.new.self None) here refl

pub returns-in-Paused-clause-told : goal.returns-in-Paused-clause-told
returns-in-Paused-clause-told g c =
    let here : moment c.run_watched.new.self None ≡ reached 18446744073709551615 c.args.self.now.program (moment c.args.self.now None) =
    ap (λ o. moment c.run_watched.new.self (exit_in o)) (sym c.in-Paused.is) ∙ c.in_ok-exit.ensures.reached in
    told-same g.W.Watcher.HasSeen c.args.watcher.now c.run_watched.new.watcher _ _
    (paused-told 18446744073709551615 c.args.self.now.program (moment c.args.self.now None) c.run_watched.ensures.schedule (omega (arith, c.run_watched.ensures.gas))
    (ap (λ (m : Moment). m.exit) (sym here)))
    c.in_ok-exit.ensures.told
