use Rattle.pvm_isa.specs.Arguments.{arguments}
use Rattle.pvm_isa.proofs.windows.third_register_in.Goals as goal

pub returns-clause-value : goal.returns-clause-value
unfolding arguments
returns-clause-value c = λ code pc skip is. c.third_register.ensures.value code pc is
