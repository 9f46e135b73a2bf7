use Rattle.jam_fields.specs.AnswerLaws.{none_here}
use Rattle.batch_file.specs.BatchFile.{delivery_format}
use Rattle.batch_file.specs.BatchLaws.{delivery_laws}
use Rattle.batch_file.proofs.delivery.take_delivery.Goals as goal

pub returns-clause-none : goal.returns-clause-none
returns-clause-none c = none_here delivery_format delivery_laws c.read.result c.args.cursor.now c.read.new.cursor c.read.ensures.exact
