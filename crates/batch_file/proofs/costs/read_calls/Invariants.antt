use Rattle.std.proofs.Common.{◌≡◌, length}
use Rattle.batch_file.proofs.CostLists.{Begun}
use Rattle.batch_file.proofs.costs.read_calls.Given as goal

abbrev pub invariant-loop-call : goal.invariant-loop-call
invariant-loop-call l = record {
  size : length l.calls ≡ 28;
  begun : Begun 2 10 28 l.call l.calls l.fn.cursor l.cursor;
}
