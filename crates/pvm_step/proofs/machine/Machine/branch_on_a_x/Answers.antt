use Rattle.std.proofs.Common.{◌≡◌, ℕ, Bool, true, false, None, Option, ap, sym, ◌∙◌}
use Rattle.pvm_isa.specs.Arguments.{arguments}
use Rattle.pvm_isa.specs.declared.form.Form.TheVariants.{F8, F10}
use Rattle.pvm_alu.specs.Alu as alu
use Rattle.blob_decode.specs.Program.{Program, next}
use Rattle.pvm_step.specs.Effect.{MachineState, Branches, branches_on_a_x, after, goes, value_in}
use Rattle.pvm_step.specs.Machine.{Machine, state_of, after_of, exit_after}
use Rattle.pvm_step.proofs.Acting.{outcome_by, taken-at, passed-at}
use Rattle.pvm_step.proofs.machine.Machine.branch_on_a_x.Goals as goal

pub returns-then-test-clause-acts : goal.returns-then-test-clause-acts
unfolding arguments
returns-then-test-clause-acts c =
    let p : Program = c.args.self.now.program in
    let s : MachineState = state_of c.args.self.now in
    let x = c.immediate_before_offset_in.ensures p.code s.pc c.args.skip c.requires.at.window in
    let value = c.value.ensures ∙ ap (value_in s) c.requires.first in
    let holds : alu.test c.args.op (value_in s (arguments F8 p.code s.pc c.args.skip).a) (arguments F8 p.code s.pc c.args.skip).x ≡ true =
    (λ i. alu.test c.args.op (sym value i) (sym x i)) ∙ sym c.test.ensures ∙ c.if-test.true in
    c.jump_by_offset.ensures.landed
    ∙ sym (taken-at p s (arguments F8 p.code s.pc c.args.skip).target (alu.test c.args.op (value_in s (arguments F8 p.code s.pc c.args.skip).a) (arguments F8 p.code s.pc c.args.skip).x) holds)
    ∙ ap (λ (k : ℕ). after p s (branches_on_a_x c.args.op (arguments F8 p.code s.pc k) s)) c.requires.at.skip
    ∙ sym (outcome_by c.args.op F8 (branches_on_a_x c.args.op) p s c.requires.line c.requires.form)

pub returns-clause-acts : goal.returns-clause-acts
unfolding arguments
returns-clause-acts c =
    let p : Program = c.args.self.now.program in
    let s : MachineState = state_of c.args.self.now in
    let x = c.immediate_before_offset_in.ensures p.code s.pc c.args.skip c.requires.at.window in
    let value = c.value.ensures ∙ ap (value_in s) c.requires.first in
    let fails : alu.test c.args.op (value_in s (arguments F8 p.code s.pc c.args.skip).a) (arguments F8 p.code s.pc c.args.skip).x ≡ false =
    (λ i. alu.test c.args.op (sym value i) (sym x i)) ∙ sym c.test.ensures ∙ c.if-test.false in
    let gone : after_of c.go_on.new.self None ≡ goes s (next p s.pc) = ap (λ (m : Machine). after_of m None) c.go_on.ensures in
    gone
    ∙ sym (passed-at p s (arguments F8 p.code s.pc c.args.skip).target (alu.test c.args.op (value_in s (arguments F8 p.code s.pc c.args.skip).a) (arguments F8 p.code s.pc c.args.skip).x) fails)
    ∙ ap (λ (k : ℕ). after p s (branches_on_a_x c.args.op (arguments F8 p.code s.pc k) s)) c.requires.at.skip
    ∙ sym (outcome_by c.args.op F8 (branches_on_a_x c.args.op) p s c.requires.line c.requires.form)
