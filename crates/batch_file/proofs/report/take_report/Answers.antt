use Rattle.jam_fields.specs.AnswerLaws.{none_here}
use Rattle.batch_file.specs.BatchFile.{report_format}
use Rattle.batch_file.specs.BatchLaws.{report_laws}
use Rattle.batch_file.proofs.report.take_report.Goals as goal

pub returns-clause-none : goal.returns-clause-none
returns-clause-none c = none_here report_format report_laws c.read.result c.args.cursor.now c.read.new.cursor c.read.ensures.exact
