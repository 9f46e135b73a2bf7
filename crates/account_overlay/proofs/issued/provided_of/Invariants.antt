use Rattle.std.proofs.Common.{◌≡◌, ◌++◌}
use Rattle.account_overlay.proofs.issued.provided_of.Given as goal

abbrev pub invariant-loop-preimage : goal.invariant-loop-preimage
invariant-loop-preimage l = l.list ++ l.preimage-iterator.rest.items ≡ l.fn.provided.items
