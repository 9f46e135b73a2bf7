use Rattle.std.proofs.Common.{subst, OnOk}
use Rattle.batch_file.specs.BatchFile.{deliveries_format}
use Rattle.batch_file.proofs.delivery.DeliveriesSpell.write.Goals as goal

pub returns-clause-fits : goal.returns-clause-fits
returns-clause-fits c = subst (λ items. OnOk c.write_list.result (deliveries_format.Fits items)) c.as_slice.ensures c.write_list.ensures.fits
