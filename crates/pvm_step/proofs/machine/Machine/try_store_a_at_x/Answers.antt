use Rattle.std.proofs.Common.{rules, ◌≡◌, sym, ◌∙◌}
use Rattle.pvm_isa.specs.Arguments.{arguments}
use Rattle.pvm_isa.specs.declared.form.Form.TheVariants.{F6}
use Rattle.blob_decode.specs.Program.{Program, skip}
use Rattle.pvm_step.specs.Effect.{MachineState, stores_a_at_x, after}
use Rattle.pvm_step.specs.Machine.{state_of, after_of, exit_after}
use Rattle.pvm_step.proofs.Acting.{outcome_by}
use Rattle.pvm_step.proofs.machine.Machine.try_store_a_at_x.Goals as goal

pub returns-clause-acts : goal.returns-clause-acts
unfolding arguments
returns-clause-acts c = λ done.
    let p : Program = c.args.self.now.program in
    let s : MachineState = state_of c.args.self.now in
    let made : after_of c.try_store.new.self (exit_after c.try_store.result) ≡ after p s (stores_a_at_x c.args.width (arguments F6 p.code s.pc (skip p s.pc)) s) = search rules in
    made
    ∙ sym (outcome_by c.args.op F6 (stores_a_at_x c.args.width) p s c.requires.line c.requires.form)
