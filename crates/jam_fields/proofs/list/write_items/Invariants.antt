use Rattle.std.proofs.Common.{drop}
use Rattle.jam_fields.specs.ItemLaws.{AddedWhole}
use Rattle.jam_fields.proofs.list.write_items.Given as goal

abbrev pub invariant-loop-item : goal.invariant-loop-item
invariant-loop-item g l = AddedWhole (λ _. g.T.Field.format) l.items (drop l.item-index l.items) l.fn.out.items l.out.items
