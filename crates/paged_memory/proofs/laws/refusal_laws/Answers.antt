use Rattle.paged_memory.specs.PageMap.{forbidden}
use Rattle.paged_memory.proofs.RefusalLaws.{allowed_law, low_law, fault_law}
use Rattle.paged_memory.proofs.laws.refusal_laws.Goals as goal

pub returns-clause-allowed : goal.returns-clause-allowed
returns-clause-allowed c m need from n = allowed_law (forbidden m need from n)

pub returns-clause-low : goal.returns-clause-low
returns-clause-low c m need from n = low_law (forbidden m need from n)

pub returns-clause-fault : goal.returns-clause-fault
returns-clause-fault c m need from n start = fault_law (forbidden m need from n) start
