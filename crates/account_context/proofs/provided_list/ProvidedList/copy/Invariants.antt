use Rattle.std.proofs.Common.{◌≡◌, take}
use Rattle.account_context.proofs.provided_list.ProvidedList.copy.Given as goal

abbrev pub invariant-loop-provided : goal.invariant-loop-provided
invariant-loop-provided l = l.copy ≡ take l.provided-index l.provided-items
