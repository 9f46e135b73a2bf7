use Rattle.std.proofs.Common.{◌≡◌, ℕ, [], ap, sym, ◌∙◌, refl, subst, arith, None}
use Rattle.pvm_step.specs.Machine.{Machine, moment, exit_in}
use Rattle.pvm_step.specs.History.{Moment, reached}
use Rattle.pvm_invoke.specs.declared.stage.Stage.TheVariants.{Runs}
use Rattle.pvm_invoke.specs.Turns.{stands, stage_after, at_moment, Follows}
use Rattle.pvm_invoke.specs.Invocation.{IsAtCall, HasMoved}
use Rattle.pvm_invoke.proofs.Running.{paid_count, run_follows, run_moves, paid_few, same_standing, at_call, counted}
use Rattle.pvm_invoke.proofs.turns.make_instructions.Goals as goal

pub returns-clause-follows : goal.returns-clause-follows
returns-clause-follows c = λ effect held.
    let k : Machine = c.args.machine.now in
    let m : Machine = c.run_watched.new.self in
    let there : Moment = reached c.args.fuel k.program (moment k None) in
    let count : ℕ = paid_count 1 c.args.fuel k.program (moment k None) in
    let made : c.run_watched.new.watcher.made ≡ count =
    counted c.args.fuel c.run_watched.new.watcher.made count (paid_few c.args.fuel 1 k.program (moment k None)) (omega arith) (c.in_ok-progress.ensures.told [] c.new-counter.ensures) in
    let here : stands m held c.stage_after.result ≡ at_moment k held there =
    ap (stands m held) c.stage_after.ensures ∙ same_standing k m held (exit_in c.in_ok-progress.progress) there c.in_ok-progress.ensures.program c.in_ok-progress.ensures.reached in
    subst (λ j. Follows effect c.args.fuel j (stands k held Runs) (stands m held c.stage_after.result)) (sym made)
    (subst (Follows effect c.args.fuel count (stands k held Runs)) (sym here) (run_follows c.args.fuel 1 effect k held))

pub returns-clause-at_call : goal.returns-clause-at_call
returns-clause-at_call c =
    subst (IsAtCall c.run_watched.new.self) (sym c.stage_after.ensures)
    (at_call c.args.machine.now c.run_watched.new.self c.args.fuel (exit_in c.in_ok-progress.progress) c.in_ok-progress.ensures.program c.in_ok-progress.ensures.reached)

pub returns-clause-moves : goal.returns-clause-moves
returns-clause-moves c = λ some.
    let k : Machine = c.args.machine.now in
    let count : ℕ = paid_count 1 c.args.fuel k.program (moment k None) in
    let made : c.run_watched.new.watcher.made ≡ count =
    counted c.args.fuel c.run_watched.new.watcher.made count (paid_few c.args.fuel 1 k.program (moment k None)) (omega arith) (c.in_ok-progress.ensures.told [] c.new-counter.ensures) in
    let stage : c.stage_after.result ≡ stage_after (reached c.args.fuel k.program (moment k None)).exit =
    c.stage_after.ensures ∙ ap (λ (there : Moment). stage_after there.exit) c.in_ok-progress.ensures.reached in
    subst (λ j. HasMoved j c.stage_after.result) (sym made) (subst (HasMoved count) (sym stage) (run_moves c.args.fuel 1 k.program (moment k None) refl some))
