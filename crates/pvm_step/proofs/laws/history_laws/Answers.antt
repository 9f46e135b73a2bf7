use Rattle.pvm_step.proofs.Histories.{history-is, one_history, history-short, never_rises, nth_is, last_is, gas_paid}
use Rattle.pvm_step.proofs.Unpaid.{unpaid}
use Rattle.pvm_step.proofs.Reached.{reached-gain, answer-gain}
use Rattle.pvm_step.proofs.laws.history_laws.Goals as goal

pub returns-clause-is_history : goal.returns-clause-is_history
returns-clause-is_history c = history-is

pub returns-clause-no_other : goal.returns-clause-no_other
returns-clause-no_other c = one_history

pub returns-clause-steps : goal.returns-clause-steps
returns-clause-steps c = history-short

pub returns-clause-gas : goal.returns-clause-gas
returns-clause-gas c = never_rises

pub returns-clause-more_gas : goal.returns-clause-more_gas
returns-clause-more_gas c p m more n not = reached-gain n p m more not

pub returns-clause-gas_used : goal.returns-clause-gas_used
returns-clause-gas_used c = answer-gain

pub returns-clause-states : goal.returns-clause-states
returns-clause-states c p m d ms n h less = nth_is n p m d ms h less

pub returns-clause-last : goal.returns-clause-last
returns-clause-last c = last_is

pub returns-clause-paid : goal.returns-clause-paid
returns-clause-paid c p m ms h not = gas_paid p m m ms h not

pub returns-clause-unpaid : goal.returns-clause-unpaid
returns-clause-unpaid c p m ms h going out = unpaid p m m ms h going out
