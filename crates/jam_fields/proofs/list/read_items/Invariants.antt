use Rattle.std.proofs.Common.{None, ◌-◌}
use Rattle.jam_codec.specs.Format.{items_at}
use Rattle.jam_fields.specs.ItemLaws.{Ahead}
use Rattle.jam_fields.proofs.list.read_items.Given as goal

abbrev pub invariant-loop : goal.invariant-loop
invariant-loop g l = Ahead (λ _. g.T.Field.format) (items_at (λ _. g.T.Field.format) l.count None l.fn.cursor) l.items.items (l.count - l.counter) l.cursor
