use Rattle.std.proofs.Common.{◌∙◌, ap}
use Rattle.page_rights.specs.RunList.{rights_of_runs}
use Rattle.page_rights.proofs.Spread.{nothing_spread}
use Rattle.page_rights.proofs.runs.Runs.new.Goals as goal

pub returns : goal.returns
returns c = ap rights_of_runs c.new.ensures.items ∙ nothing_spread
