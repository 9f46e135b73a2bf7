use Rattle.std.proofs.Common.{◌≡◌, ap, sym, refl, ◌∙◌}
use Rattle.std.specs.Prelude.{not, ◌==◌}
use Rattle.pvm_isa.specs.Arguments.{arguments}
use Rattle.pvm_isa.specs.Opcodes.{entry}
use Rattle.pvm_isa.specs.declared.form.Form.TheVariants.{F13}
use Rattle.pvm_isa.specs.declared.op.Op.TheVariants.{CmovNz}
use Rattle.blob_decode.specs.Program.{Program, skip}
use Rattle.pvm_step.specs.Effect.{MachineState, Moves, after, line, value_in}
use Rattle.pvm_step.specs.Machine.{state_of}
use Rattle.pvm_step.proofs.Acting.{outcome_by}
use Rattle.pvm_step.proofs.machine.Machine.cmov_nz.Goals as goal

pub returns-clause-acts : goal.returns-clause-acts
unfolding arguments entry line
returns-clause-acts c =
    let p : Program = c.args.self.now.program in
    let s : MachineState = state_of c.args.self.now in
    let tested = c.value-holds.ensures ∙ ap (value_in s) c.requires.read.second in
    let moved = c.value-value.ensures ∙ ap (value_in s) c.requires.read.first in
    let to = c.third_register_in.ensures.value p.code s.pc (skip p s.pc) c.requires.window in
    c.move_where.ensures.acts
    ∙ (λ i. after p s (Moves (not (tested i == 0)) (to i) (moved i)))
    ∙ sym (outcome_by CmovNz F13 (λ a s. Moves (not (value_in s a.b == 0)) a.d (value_in s a.a)) p s refl refl)
