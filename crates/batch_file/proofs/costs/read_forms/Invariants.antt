use Rattle.std.proofs.Common.{◌≡◌, length}
use Rattle.batch_file.proofs.CostLists.{Begun}
use Rattle.batch_file.proofs.costs.read_forms.Given as goal

abbrev pub invariant-loop-form : goal.invariant-loop-form
invariant-loop-form l = record {
  size : length l.forms ≡ 13;
  begun : Begun 1 1 13 l.form l.forms l.fn.cursor l.cursor;
}
