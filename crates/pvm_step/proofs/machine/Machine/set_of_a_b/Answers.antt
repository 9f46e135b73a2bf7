use Rattle.std.proofs.Common.{◌≡◌, ℕ, ap, sym, ◌∙◌}
use Rattle.pvm_isa.specs.Arguments.{arguments}
use Rattle.pvm_isa.specs.declared.form.Form.TheVariants.{F13}
use Rattle.pvm_alu.specs.Alu as alu
use Rattle.blob_decode.specs.Program.{Program, skip}
use Rattle.pvm_step.specs.Effect.{MachineState, Sets, sets_of_a_b, after, value_in}
use Rattle.pvm_step.specs.Machine.{state_of, after_of}
use Rattle.pvm_step.proofs.Acting.{outcome_by}
use Rattle.pvm_step.proofs.machine.Machine.set_of_a_b.Goals as goal

pub returns-clause-acts : goal.returns-clause-acts
unfolding arguments
returns-clause-acts c =
    let p : Program = c.args.self.now.program in
    let s : MachineState = state_of c.args.self.now in
    let first = c.value.ensures ∙ ap (value_in s) c.requires.read.first in
    let second = c.value-2.ensures ∙ ap (value_in s) c.requires.read.second in
    let value = c.binary-value.ensures ∙ (λ i. alu.binary c.args.op (first i) (second i)) in
    let to = c.third_register_in.ensures.value p.code s.pc (skip p s.pc) c.requires.window in
    c.set_and_go_on.ensures.acts
    ∙ (λ i. after p s (Sets (to i) (value i)))
    ∙ sym (outcome_by c.args.op F13 (sets_of_a_b c.args.op) p s c.requires.line c.requires.form)
