use Rattle.std.proofs.Common.{◌≡◌, ℕ, Option, ap, sym, ◌∙◌}
use Rattle.pvm_isa.specs.Arguments.{arguments, offset}
use Rattle.pvm_isa.specs.declared.form.Form.TheVariants.{F11}
use Rattle.pvm_alu.specs.Alu as alu
use Rattle.blob_decode.specs.Program.{Program, skip}
use Rattle.pvm_step.specs.Effect.{MachineState, Branches, branches_on_a_b, after, value_in}
use Rattle.pvm_step.specs.Machine.{state_of, after_of, exit_after}
use Rattle.pvm_step.proofs.Acting.{outcome_by}
use Rattle.pvm_step.proofs.machine.Machine.branch_on_a_b.Goals as goal

pub returns-clause-acts : goal.returns-clause-acts
unfolding arguments
returns-clause-acts c =
    let p : Program = c.args.self.now.program in
    let s : MachineState = state_of c.args.self.now in
    let first = c.value.ensures ∙ ap (value_in s) c.requires.read.first in
    let second = c.value-2.ensures ∙ ap (value_in s) c.requires.read.second in
    let holds = c.test-taken.ensures ∙ (λ i. alu.test c.args.op (first i) (second i)) in
    let target : c.at_distance.result ≡ (arguments F11 p.code s.pc (skip p s.pc)).target = c.at_distance.ensures ∙ (λ i. offset (c.requires.here i) (c.requires.read.immediate i)) in
    c.branch-self.ensures.acts
    ∙ (λ i. after p s (Branches (holds i) (target i)))
    ∙ sym (outcome_by c.args.op F11 (branches_on_a_b c.args.op) p s c.requires.line c.requires.form)
