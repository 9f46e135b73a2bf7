use Rattle.std.proofs.lemmas.List.{length-replicate}
use Rattle.std.specs.Prelude.{replicate, map}
use Rattle.page_rights.specs.PageRights.{lifted, pages_in}
use Rattle.page_rights.specs.RangeLaws.{granted_page, lifted_page, range_size, lifted_long}
use Rattle.page_rights.proofs.laws.range_laws.Goals as goal

pub returns-clause-granted : goal.returns-clause-granted
returns-clause-granted c pages first count page to fits = granted_page pages first count fits page to

pub returns-clause-lifted : goal.returns-clause-lifted
returns-clause-lifted c pages first count page fits = lifted_page pages first count fits page

pub returns-clause-sizes : goal.returns-clause-sizes
returns-clause-sizes c pages first count to fits = range_size pages first count fits (replicate count to) (length-replicate count to)

pub returns-clause-lifted_size : goal.returns-clause-lifted_size
returns-clause-lifted_size c pages first count fits = range_size pages first count fits (map lifted (pages_in pages first count)) (lifted_long pages first count fits)
