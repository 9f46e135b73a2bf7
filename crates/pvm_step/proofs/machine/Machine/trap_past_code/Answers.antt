use Rattle.std.proofs.Common.{◌≡◌, ◌-◌, [], ◌∷◌, None, Some, ap, sym, ◌∙◌, refl, arith}
use Rattle.pvm_isa.specs.declared.op.Op.{Op}
use Rattle.pvm_isa.specs.declared.op.Op.TheVariants.{Trap}
use Rattle.blob_decode.specs.Program.{op_at}
use Rattle.pvm_step.specs.History.{cost_of}
use Rattle.pvm_step.specs.Machine.{Machine, state_of, with_gas}
use Rattle.pvm_step.specs.declared.exit.Exit.TheVariants.{Panic}
use Rattle.pvm_step.proofs.Acting.{op_at-past, effect-past}
use Rattle.pvm_step.proofs.Steps.{step-without}
use Rattle.pvm_step.specs.declared.watcher.PaidInstruction.{PaidInstruction}
use Rattle.pvm_step.specs.Watched.{instruction_at}
use Rattle.pvm_step.proofs.Turns.{none_changed, turn}
use Rattle.pvm_step.proofs.Watched.{paid_at-short, paid_at-paid, told-none, told-same}
use Rattle.pvm_step.proofs.machine.Machine.trap_past_code.Goals as goal

pub returns-then-left-cost-clause-step : goal.returns-then-left-cost-clause-step
returns-then-left-cost-clause-step g c =
    let m = c.args.self.now in
    step-without m.program (with_gas m c.args.left None) c.cost-cost.result
    (c.cost-cost.ensures ∙ ap (λ (op : Op). cost_of m.costs op) (sym (op_at-past m.program m.pc c.requires.past))) c.if-left-cost.true

pub returns-clause-step : goal.returns-clause-step
returns-clause-step g c =
    let m = c.args.self.now in
    turn m m c.args.left c.cost-cost.result (Some Panic) (none_changed m)
    (c.cost-cost.ensures ∙ ap (λ (op : Op). cost_of m.costs op) (sym (op_at-past m.program m.pc c.requires.past))) (omega (arith, c.if-left-cost.false))
    (sym (effect-past m.program (state_of m) c.requires.past))

pub returns-then-left-cost-clause-told : goal.returns-then-left-cost-clause-told
returns-then-left-cost-clause-told g c =
    let m = c.args.self.now in
    let cost : c.cost-cost.result ≡ cost_of m.costs (op_at m.program m.pc) = c.cost-cost.ensures ∙ ap (λ (op : Op). cost_of m.costs op) (sym (op_at-past m.program m.pc c.requires.past)) in
    told-none g.W.Watcher.HasSeen c.args.watcher.now _ (paid_at-short c.args.number m.program (with_gas m c.args.left None) refl (omega (arith, cost, c.if-left-cost.true)))

pub returns-clause-told : goal.returns-clause-told
returns-clause-told g c =
    let m = c.args.self.now in
    let past : Trap ≡ op_at m.program m.pc = sym (op_at-past m.program m.pc c.requires.past) in
    let cost : c.cost-cost.result ≡ cost_of m.costs (op_at m.program m.pc) = c.cost-cost.ensures ∙ ap (λ (op : Op). cost_of m.costs op) past in
    let left : c.args.left - c.cost-cost.result ≡ c.args.left - cost_of m.costs (op_at m.program m.pc) = ap (λ k. c.args.left - k) cost in
    let told : PaidInstruction = record { number = c.args.number; pc = c.self.inside.pc; op = Trap; gas = c.args.left - c.cost-cost.result } in
    let place : c.self.inside.pc ≡ m.pc = ap (λ (n : Machine). n.pc) c.self.view_is in
    let made : told ≡ instruction_at c.args.number m.program (with_gas m c.args.left None) = λ i. record { number = c.args.number; pc = place i; op = past i; gas = left i } in
    told-same g.W.Watcher.HasSeen c.args.watcher.now c.see.new.self _ _
    (ap (λ (k : PaidInstruction). k ∷ []) made ∙ sym (paid_at-paid c.args.number m.program (with_gas m c.args.left None) refl (omega (arith, cost, c.if-left-cost.false))))
    c.see.ensures
