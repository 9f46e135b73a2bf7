use Rattle.std.proofs.Common.{◌≡◌, Bool, true, false, refl, ap, sym, ◌∙◌}
use Rattle.pvm_step.specs.declared.attempt.Attempt.{Attempt}
use Rattle.pvm_step.specs.declared.attempt.Attempt.TheVariants.{Beyond}
use Rattle.pvm_step.specs.Machine.{is_done}
use Rattle.pvm_step.specs.Named.{on_registers}
use Rattle.pvm_step.proofs.machine.Machine.attempt.Goals as goal

not_done : (b : Bool) (r : Attempt) → (b ≡ true → is_done r ≡ true) → r ≡ Beyond → b ≡ false
not_done false r done beyond = refl
not_done true r done beyond = let both : false ≡ true = sym (ap is_done beyond) ∙ done refl in absurd (cc both)

pub returns-clause-beyond : goal.returns-clause-beyond
returns-clause-beyond g c = λ beyond. not_done (on_registers c.args.at.op) c.act_on_registers.result c.act_on_registers.ensures.done beyond
