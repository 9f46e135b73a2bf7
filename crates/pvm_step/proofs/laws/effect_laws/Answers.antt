use Rattle.pvm_step.proofs.Named.{leaves-registers, leaves-memory, leaves-bytes}
use Rattle.pvm_step.proofs.Grown.{lifts, spares, full}
use Rattle.pvm_step.proofs.laws.effect_laws.Goals as goal

pub returns-clause-registers : goal.returns-clause-registers
returns-clause-registers c = leaves-registers

pub returns-clause-memory : goal.returns-clause-memory
returns-clause-memory c = leaves-memory

pub returns-clause-bytes : goal.returns-clause-bytes
returns-clause-bytes c = leaves-bytes

pub returns-clause-lifts : goal.returns-clause-lifts
returns-clause-lifts c = lifts

pub returns-clause-spares : goal.returns-clause-spares
returns-clause-spares c = spares

pub returns-clause-full : goal.returns-clause-full
returns-clause-full c = full
