use Rattle.std.proofs.Common.{◌≡◌, ◌+◌, ◌++◌, ◌-◌, ◌≤◌, arith, sym, ◌∙◌, ap, subst, Some, None, refl}
use Rattle.blob_decode.specs.Program.{Program, op_at}
use Rattle.pvm_isa.specs.declared.op.Op.{Op}
use Rattle.pvm_step.specs.Effect.{effect}
use Rattle.pvm_step.specs.Machine.{Machine, ChangesStateAlone, state_of, after_of, moment, with_gas}
use Rattle.pvm_step.specs.History.{Moment, cost_of, step, reached, states}
use Rattle.pvm_step.specs.Watched.{paid_at, paid_instructions, WasTold}
use Rattle.pvm_step.specs.declared.exit.Exit.{Exit}
use Rattle.pvm_step.specs.declared.exit.Exit.TheVariants.{Panic}
use Rattle.pvm_step.proofs.Reached.{reached-none, made-more, made-last}
use Rattle.pvm_step.proofs.Turns.{through, none_changed, turn-next, turn-told, turn-last, turn-short, turn-short_told}
use Rattle.pvm_step.proofs.Watched.{paid-none, paid-more, paid-to_end, told-none, told-more, told-same}
use Rattle.pvm_step.proofs.machine.Machine.go.Goals.{in-Next, in-Jumped, in-Beyond+in-Ok-None}
use Rattle.pvm_step.proofs.machine.Machine.go.Goals as goal

pub steps-init : goal.steps-init
steps-init g c =
    let all : c.left-left.result ≡ c.args.self.now.gas = c.left-left.ensures ∙ ap (λ (m : Machine). m.gas) c.self.view_is in
    record {
      rest = none_changed c.args.self.now;
      place = ap (λ (m : Machine). m.pc) c.self.view_is;
      gas = omega (arith, all);
      here = ap (λ gas. with_gas c.args.self.now gas None) all ∙ sym (reached-none c.args.self.now.program (moment c.args.self.now None));
      told = told-none g.W.Watcher.HasSeen c.args.watcher.now _ (paid-none c.args.self.now.program (moment c.args.self.now None));
    }

pub returns-in_default-clause-reached : goal.returns-in_default-clause-reached
returns-in_default-clause-reached g c =
    made-last c.args.self.now.program (moment c.args.self.now None) c.steps.made c.args.fuel (with_gas c.steps.self c.steps.left None)
    (with_gas c.steps.self c.trap_past_code-left.result.0 (Some c.trap_past_code-left.result.1)) c.trap_past_code-left.result.1 c.steps-test.true refl c.steps.invariant.here refl
    (c.trap_past_code-left.ensures.step ∙ ap (λ (p : Program). step p (with_gas c.steps.self c.steps.left None)) c.steps.invariant.rest.program)

pub returns-then-left-cost-clause-reached : goal.returns-then-left-cost-clause-reached
returns-then-left-cost-clause-reached g c =
    ap (λ (e : Exit). with_gas c.steps.self 0 (Some e)) c.out_of_gas.ensures
    ∙ turn-short c.args.self.now.program (moment c.args.self.now None) c.steps.made c.steps.self c.steps.left c.cost-cost.result c.steps.invariant.rest.program c.steps.invariant.here
    (c.cost-cost.ensures ∙ ap (λ (op : Op). cost_of c.steps.self.costs op) c.in-Some.ensures.found.op) c.args.fuel c.steps-test.true c.if-left-cost.true

pub returns-in-Panics-clause-reached : goal.returns-in-Panics-clause-reached
returns-in-Panics-clause-reached g c =
    turn-last c.args.self.now.program (moment c.args.self.now None) c.steps.made c.steps.self c.steps.left c.cost-cost.result c.steps.invariant.rest.program c.steps.invariant.here
    (c.cost-cost.ensures ∙ ap (λ (op : Op). cost_of c.steps.self.costs op) c.in-Some.ensures.found.op)
    c.attempt.new.self c.args.fuel Panic c.steps-test.true c.attempt.ensures.rest (omega (arith, c.if-left-cost.false)) (c.in-Panics.ensures.made refl)

pub returns-in-Ok-Some-clause-reached : goal.returns-in-Ok-Some-clause-reached
returns-in-Ok-Some-clause-reached g c =
    let before : c.attempt.new.self ≡ c.steps.self = c.in-Beyond.ensures.same refl in
    turn-last c.args.self.now.program (moment c.args.self.now None) c.steps.made c.steps.self c.steps.left c.cost-cost.result c.steps.invariant.rest.program c.steps.invariant.here
    (c.cost-cost.ensures ∙ ap (λ (op : Op). cost_of c.steps.self.costs op) c.in-Some.ensures.found.op)
    c.go_beyond.new.self c.args.fuel c.in-Ok-Some.exit c.steps-test.true (through c.attempt.ensures.rest c.go_beyond.ensures.rest) (omega (arith, c.if-left-cost.false))
    (ap (after_of c.go_beyond.new.self) (sym c.in-Ok-Some.field-0-is) ∙ c.in-Ok-Some.ensures.effect ∙ ap (λ (m : Machine). effect m.program (state_of m)) before)

pub steps-preserved : goal.steps-preserved
steps-preserved g c =
    let enough : c.cost-cost.result ≤ c.steps.left = omega (arith, c.if-left-cost.false) in
    let costs : c.cost-cost.result ≡ cost_of c.steps.self.costs (op_at c.steps.self.program c.steps.self.pc) =
    c.cost-cost.ensures ∙ ap (λ (op : Op). cost_of c.steps.self.costs op) c.in-Some.ensures.found.op in
    let told : WasTold g.W.Watcher.HasSeen c.args.watcher.now c.see.new.self (paid_instructions 1 c.args.self.now.program (states (c.steps.made + 1) c.args.self.now.program (moment c.args.self.now None))) =
    told-same g.W.Watcher.HasSeen c.args.watcher.now c.see.new.self _ _
    (turn-told c.args.self.now.program (moment c.args.self.now None) c.steps.made c.steps.self c.steps.left c.cost-cost.result c.steps.invariant.rest.program c.steps.invariant.here costs
    (record { number = c.steps.made + 1; pc = c.in-Some.at.pc; op = c.in-Some.at.op; gas = c.steps.left - c.cost-cost.result }) refl c.in-Some.ensures.found.here c.in-Some.ensures.found.op refl enough)
    (told-more g.W.Watcher.HasSeen c.args.watcher.now c.steps.watcher c.see.new.self _ _ c.steps.invariant.told c.see.ensures) in
    elim c.match-attempt.branch [
      | in-Next w ↦ record {
        rest = subst (ChangesStateAlone c.args.self.now) (sym w.self-is) (through c.steps.invariant.rest c.attempt.ensures.rest);
        place = w.pc-is ∙ sym (w.in-Next.ensures.next refl) ∙ sym (ap (λ (m : Machine). m.pc) w.self-is);
        gas = omega (arith, c.steps.invariant.gas);
        here = ap (λ (m : Machine). with_gas m (c.steps.left - c.cost-cost.result) None) w.self-is
            ∙ turn-next c.args.self.now.program (moment c.args.self.now None) c.steps.made c.steps.self c.steps.left c.cost-cost.result c.steps.invariant.rest.program c.steps.invariant.here costs
            c.attempt.new.self None c.attempt.ensures.rest enough
            (w.in-Next.ensures.made refl);
        told = told;
      }
      | in-Jumped w ↦ record {
        rest = subst (ChangesStateAlone c.args.self.now) (sym w.self-is) (through c.steps.invariant.rest c.attempt.ensures.rest);
        place = w.pc-is ∙ ap (λ (m : Machine). m.pc) w.self-in-Jumped.view_is ∙ sym (ap (λ (m : Machine). m.pc) w.self-is);
        gas = omega (arith, c.steps.invariant.gas);
        here = ap (λ (m : Machine). with_gas m (c.steps.left - c.cost-cost.result) None) w.self-is
            ∙ turn-next c.args.self.now.program (moment c.args.self.now None) c.steps.made c.steps.self c.steps.left c.cost-cost.result c.steps.invariant.rest.program c.steps.invariant.here costs
            c.attempt.new.self None c.attempt.ensures.rest enough
            (w.in-Jumped.ensures.made refl);
        told = told;
      }
      | in-Beyond+in-Ok-None w ↦ record {
        rest = subst (ChangesStateAlone c.args.self.now) (sym w.self-is) (through c.steps.invariant.rest (through c.attempt.ensures.rest w.go_beyond.ensures.rest));
        place = w.pc-is ∙ ap (λ (m : Machine). m.pc) w.self-in-Beyond.view_is ∙ sym (ap (λ (m : Machine). m.pc) w.self-is);
        gas = omega (arith, c.steps.invariant.gas);
        here = ap (λ (m : Machine). with_gas m (c.steps.left - c.cost-cost.result) None) w.self-is
            ∙ turn-next c.args.self.now.program (moment c.args.self.now None) c.steps.made c.steps.self c.steps.left c.cost-cost.result c.steps.invariant.rest.program c.steps.invariant.here costs
            w.go_beyond.new.self None (through c.attempt.ensures.rest w.go_beyond.ensures.rest) enough
            (ap (after_of w.go_beyond.new.self) (sym w.in-Ok-None.field-0-is) ∙ w.in-Ok-None.ensures.effect ∙ ap (λ (m : Machine). effect m.program (state_of m)) (w.in-Beyond.ensures.same refl));
        told = told;
      }
    ]

-- ---- What the watcher was told

pub returns-in_default-clause-told : goal.returns-in_default-clause-told
returns-in_default-clause-told g c =
    let m : Moment = moment c.args.self.now None in
    let p : Program = c.args.self.now.program in
    let same : c.steps.self.program ≡ p = c.steps.invariant.rest.program in
    let ends : with_gas c.steps.self c.trap_past_code-left.result.0 (Some c.trap_past_code-left.result.1) ≡ reached (c.steps.made + 1) p m =
    made-more p m c.steps.made (with_gas c.steps.self c.steps.left None) (with_gas c.steps.self c.trap_past_code-left.result.0 (Some c.trap_past_code-left.result.1)) refl c.steps.invariant.here
    (c.trap_past_code-left.ensures.step ∙ ap (λ (q : Program). step q (with_gas c.steps.self c.steps.left None)) same) in
    told-same g.W.Watcher.HasSeen c.args.watcher.now c.trap_past_code-left.new.watcher _ _
    (ap (λ (q : Program). paid_instructions 1 p (states c.steps.made p m) ++ paid_at (c.steps.made + 1) q (with_gas c.steps.self c.steps.left None)) same
    ∙ sym (paid-more c.steps.made p m (with_gas c.steps.self c.steps.left None) c.steps.invariant.here)
    ∙ paid-to_end 1 (c.steps.made + 1) c.args.fuel p m c.trap_past_code-left.result.1 (omega (arith, c.steps-test.true)) (ap (λ (k : Moment). k.exit) (sym ends)))
    (told-more g.W.Watcher.HasSeen c.args.watcher.now c.steps.watcher c.trap_past_code-left.new.watcher _ _ c.steps.invariant.told c.trap_past_code-left.ensures.told)

pub returns-then-left-cost-clause-told : goal.returns-then-left-cost-clause-told
returns-then-left-cost-clause-told g c =
    told-same g.W.Watcher.HasSeen c.args.watcher.now c.steps.watcher _ _
    (turn-short_told c.args.self.now.program (moment c.args.self.now None) c.steps.made c.steps.self c.steps.left c.cost-cost.result c.steps.invariant.rest.program c.steps.invariant.here
    (c.cost-cost.ensures ∙ ap (λ (op : Op). cost_of c.steps.self.costs op) c.in-Some.ensures.found.op) c.args.fuel c.steps-test.true c.if-left-cost.true)
    c.steps.invariant.told

pub returns-in-Panics-clause-told : goal.returns-in-Panics-clause-told
returns-in-Panics-clause-told g c =
    let costs : c.cost-cost.result ≡ cost_of c.steps.self.costs (op_at c.steps.self.program c.steps.self.pc) =
    c.cost-cost.ensures ∙ ap (λ (op : Op). cost_of c.steps.self.costs op) c.in-Some.ensures.found.op in
    let enough : c.cost-cost.result ≤ c.steps.left = omega (arith, c.if-left-cost.false) in
    let told : WasTold g.W.Watcher.HasSeen c.args.watcher.now c.see.new.self (paid_instructions 1 c.args.self.now.program (states (c.steps.made + 1) c.args.self.now.program (moment c.args.self.now None))) =
    told-same g.W.Watcher.HasSeen c.args.watcher.now c.see.new.self _ _
    (turn-told c.args.self.now.program (moment c.args.self.now None) c.steps.made c.steps.self c.steps.left c.cost-cost.result c.steps.invariant.rest.program c.steps.invariant.here costs
    (record { number = c.steps.made + 1; pc = c.in-Some.at.pc; op = c.in-Some.at.op; gas = c.steps.left - c.cost-cost.result }) refl c.in-Some.ensures.found.here c.in-Some.ensures.found.op refl enough)
    (told-more g.W.Watcher.HasSeen c.args.watcher.now c.steps.watcher c.see.new.self _ _ c.steps.invariant.told c.see.ensures) in
    told-same g.W.Watcher.HasSeen c.args.watcher.now c.see.new.self _ _
    (paid-to_end 1 (c.steps.made + 1) c.args.fuel c.args.self.now.program (moment c.args.self.now None) Panic (omega (arith, c.steps-test.true))
    (ap (λ (k : Moment). k.exit) (sym (turn-next c.args.self.now.program (moment c.args.self.now None) c.steps.made c.steps.self c.steps.left c.cost-cost.result c.steps.invariant.rest.program c.steps.invariant.here costs
    c.attempt.new.self (Some Panic) c.attempt.ensures.rest enough (c.in-Panics.ensures.made refl)))))
    told

pub returns-in-Ok-Some-clause-told : goal.returns-in-Ok-Some-clause-told
returns-in-Ok-Some-clause-told g c =
    let before : c.attempt.new.self ≡ c.steps.self = c.in-Beyond.ensures.same refl in
    let costs : c.cost-cost.result ≡ cost_of c.steps.self.costs (op_at c.steps.self.program c.steps.self.pc) =
    c.cost-cost.ensures ∙ ap (λ (op : Op). cost_of c.steps.self.costs op) c.in-Some.ensures.found.op in
    let enough : c.cost-cost.result ≤ c.steps.left = omega (arith, c.if-left-cost.false) in
    let told : WasTold g.W.Watcher.HasSeen c.args.watcher.now c.see.new.self (paid_instructions 1 c.args.self.now.program (states (c.steps.made + 1) c.args.self.now.program (moment c.args.self.now None))) =
    told-same g.W.Watcher.HasSeen c.args.watcher.now c.see.new.self _ _
    (turn-told c.args.self.now.program (moment c.args.self.now None) c.steps.made c.steps.self c.steps.left c.cost-cost.result c.steps.invariant.rest.program c.steps.invariant.here costs
    (record { number = c.steps.made + 1; pc = c.in-Some.at.pc; op = c.in-Some.at.op; gas = c.steps.left - c.cost-cost.result }) refl c.in-Some.ensures.found.here c.in-Some.ensures.found.op refl enough)
    (told-more g.W.Watcher.HasSeen c.args.watcher.now c.steps.watcher c.see.new.self _ _ c.steps.invariant.told c.see.ensures) in
    told-same g.W.Watcher.HasSeen c.args.watcher.now c.see.new.self _ _
    (paid-to_end 1 (c.steps.made + 1) c.args.fuel c.args.self.now.program (moment c.args.self.now None) c.in-Ok-Some.exit (omega (arith, c.steps-test.true))
    (ap (λ (k : Moment). k.exit) (sym (turn-next c.args.self.now.program (moment c.args.self.now None) c.steps.made c.steps.self c.steps.left c.cost-cost.result c.steps.invariant.rest.program c.steps.invariant.here costs
    c.go_beyond.new.self (Some c.in-Ok-Some.exit) (through c.attempt.ensures.rest c.go_beyond.ensures.rest) enough
    (ap (after_of c.go_beyond.new.self) (sym c.in-Ok-Some.field-0-is) ∙ c.in-Ok-Some.ensures.effect ∙ ap (λ (m : Machine). effect m.program (state_of m)) before)))))
    told

pub returns-in-Err-clause-told_err : goal.returns-in-Err-clause-told_err
returns-in-Err-clause-told_err g c =
    let before : c.go_beyond.new.self ≡ c.steps.self = c.in-Err.ensures.err ∙ c.in-Beyond.ensures.same refl in
    let costs : c.cost-cost.result ≡ cost_of c.steps.self.costs (op_at c.steps.self.program c.steps.self.pc) =
    c.cost-cost.ensures ∙ ap (λ (op : Op). cost_of c.steps.self.costs op) c.in-Some.ensures.found.op in
    let enough : c.cost-cost.result ≤ c.steps.left = omega (arith, c.if-left-cost.false) in
    let told : WasTold g.W.Watcher.HasSeen c.args.watcher.now c.see.new.self (paid_instructions 1 c.args.self.now.program (states (c.steps.made + 1) c.args.self.now.program (moment c.args.self.now None))) =
    told-same g.W.Watcher.HasSeen c.args.watcher.now c.see.new.self _ _
    (turn-told c.args.self.now.program (moment c.args.self.now None) c.steps.made c.steps.self c.steps.left c.cost-cost.result c.steps.invariant.rest.program c.steps.invariant.here costs
    (record { number = c.steps.made + 1; pc = c.in-Some.at.pc; op = c.in-Some.at.op; gas = c.steps.left - c.cost-cost.result }) refl c.in-Some.ensures.found.here c.in-Some.ensures.found.op refl enough)
    (told-more g.W.Watcher.HasSeen c.args.watcher.now c.steps.watcher c.see.new.self _ _ c.steps.invariant.told c.see.ensures) in
    (c.steps.made, c.steps-test.true, ap (λ (m : Machine). with_gas m c.steps.left None) before ∙ c.steps.invariant.here, told)
