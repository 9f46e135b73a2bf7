use Rattle.std.proofs.Common.{ap, sym, ◌∙◌, arith}
use Rattle.std.proofs.lemmas.Grind.{common_steps}
use Rattle.pvm_isa.specs.declared.op.Op.{Op}
use Rattle.pvm_step.specs.Effect.{outcome}
use Rattle.pvm_step.specs.Machine.{state_of}
use Rattle.pvm_step.specs.Named.{on_registers}
use Rattle.pvm_step.proofs.Acting.{trap_panics}
use Rattle.pvm_step.proofs.machine.Machine.act_on_registers.Goals as goal

pub returns-in-Trap-clause-acts : goal.returns-in-Trap-clause-acts
returns-in-Trap-clause-acts g c =
    λ _. sym (ap (λ (op : Op). outcome op c.args.self.now.program (state_of c.args.self.now)) c.in-Trap.is
    ∙ trap_panics c.args.self.now.program (state_of c.args.self.now))

pub returns-in_default-clause-done : goal.returns-in_default-clause-done
unfolding on_registers
returns-in_default-clause-done g c = grind (arith, common_steps)
