use Rattle.gas_ledger.specs.CostLaws.{form_cost-paid, call_cost-paid}
use Rattle.gas_ledger.proofs.laws.schedule_laws.Goals as goal

pub returns-clause-form : goal.returns-clause-form
returns-clause-form c = form_cost-paid

pub returns-clause-call : goal.returns-clause-call
returns-clause-call c = call_cost-paid
