use Rattle.std.proofs.Common.{◌≡◌, ◌++◌, map}
use Rattle.std.specs.FinMap as fin
use Rattle.state_file.specs.StateFile.{under_digest}
use Rattle.state_file.proofs.preimages.preimages_of.Given as goal

abbrev pub invariant-loop-row : goal.invariant-loop-row
invariant-loop-row l = fin.entries l.preimages ++ map under_digest l.row-iterator.rest.items ≡ map under_digest l.fn.rows.items
