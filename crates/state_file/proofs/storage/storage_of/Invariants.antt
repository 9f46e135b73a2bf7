use Rattle.std.proofs.Common.{◌≡◌, ◌++◌}
use Rattle.std.specs.FinMap as fin
use Rattle.state_file.proofs.storage.storage_of.Given as goal

abbrev pub invariant-loop-key : goal.invariant-loop-key
invariant-loop-key l = fin.entries l.storage ++ l.key-iterator.rest.items ≡ l.fn.entries.items
