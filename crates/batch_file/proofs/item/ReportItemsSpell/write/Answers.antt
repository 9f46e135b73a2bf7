use Rattle.std.proofs.Common.{subst, OnOk}
use Rattle.batch_file.specs.BatchFile.{items_format}
use Rattle.batch_file.proofs.item.ReportItemsSpell.write.Goals as goal

pub returns-clause-fits : goal.returns-clause-fits
returns-clause-fits c = subst (λ items. OnOk c.write_list.result (items_format.Fits items)) c.as_slice.ensures.value c.write_list.ensures.fits
