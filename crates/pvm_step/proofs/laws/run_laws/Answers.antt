use Rattle.pvm_step.proofs.Reached.{resumed, stays_ended, costs_paid, each_costs, each_costs_one, reached-answer}
use Rattle.pvm_step.proofs.Watched.{paid-all}
use Rattle.pvm_step.proofs.laws.run_laws.Goals as goal

pub returns-clause-resumed : goal.returns-clause-resumed
returns-clause-resumed c n k p m = resumed n k p m

pub returns-clause-ended : goal.returns-clause-ended
returns-clause-ended c = stays_ended

pub returns-clause-costs : goal.returns-clause-costs
returns-clause-costs c = costs_paid

pub returns-clause-bound : goal.returns-clause-bound
returns-clause-bound c = each_costs

pub returns-clause-plain : goal.returns-clause-plain
returns-clause-plain c = each_costs_one

pub returns-clause-answers : goal.returns-clause-answers
returns-clause-answers c = reached-answer

pub returns-clause-told : goal.returns-clause-told
returns-clause-told c = paid-all
