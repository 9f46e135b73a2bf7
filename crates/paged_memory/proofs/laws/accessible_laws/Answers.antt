use Rattle.paged_memory.proofs.PageLaws.{accessible_all}
use Rattle.paged_memory.proofs.Writing.{accessible_each, accessible_end}
use Rattle.paged_memory.proofs.laws.accessible_laws.Goals as goal

pub returns-clause-each : goal.returns-clause-each
returns-clause-each c m need from n a h = accessible_each m need from n h a

pub returns-clause-end : goal.returns-clause-end
returns-clause-end c = accessible_end

pub returns-clause-all : goal.returns-clause-all
returns-clause-all c = accessible_all
