use Rattle.std.proofs.Common.{rules, ◌≡◌, None, sym, ◌∙◌}
use Rattle.pvm_isa.specs.Arguments.{arguments}
use Rattle.pvm_isa.specs.declared.form.Form.TheVariants.{F10}
use Rattle.blob_decode.specs.Program.{Program, skip}
use Rattle.pvm_step.specs.Effect.{MachineState, sets_of_b_x, after}
use Rattle.pvm_step.specs.Machine.{state_of, after_of}
use Rattle.pvm_step.proofs.Acting.{outcome_by}
use Rattle.pvm_step.proofs.machine.Machine.set_of_b_x.Goals as goal

pub returns-clause-acts : goal.returns-clause-acts
returns-clause-acts c =
    let p : Program = c.args.self.now.program in
    let s : MachineState = state_of c.args.self.now in
    let made : after_of c.set_and_go_on.new.self None ≡ after p s (sets_of_b_x c.args.op (arguments F10 p.code s.pc (skip p s.pc)) s) = search rules in
    made
    ∙ sym (outcome_by c.args.op F10 (sets_of_b_x c.args.op) p s c.requires.line c.requires.form)
