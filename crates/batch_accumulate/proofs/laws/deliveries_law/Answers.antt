use Rattle.batch_accumulate.specs.Deliveries.{none_stored}
use Rattle.batch_accumulate.proofs.OneDelivery.{deliveries_leave}
use Rattle.batch_accumulate.proofs.laws.deliveries_law.Goals as goal

pub returns : goal.returns
returns c = λ slot accounts deliveries id. deliveries_leave slot (none_stored accounts) deliveries id
