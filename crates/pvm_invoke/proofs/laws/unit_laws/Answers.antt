use Rattle.std.proofs.Common.{arith}
use Rattle.pvm_invoke.proofs.Lists.{one_list}
use Rattle.pvm_invoke.proofs.Paid.{whole, list_paid, turn_paid}
use Rattle.pvm_invoke.proofs.laws.unit_laws.Goals as goal

pub returns-clause-no_other : goal.returns-clause-no_other
returns-clause-no_other c = one_list

pub returns-clause-is_list : goal.returns-clause-is_list
returns-clause-is_list c effect s lawful costs = whole s.machine.gas effect s lawful costs (omega arith)

pub returns-clause-bound : goal.returns-clause-bound
returns-clause-bound c effect s us lawful costs list = list_paid effect s us lawful costs list

pub returns-clause-paid : goal.returns-clause-paid
returns-clause-paid c n effect s lawful costs = turn_paid n effect s lawful costs
