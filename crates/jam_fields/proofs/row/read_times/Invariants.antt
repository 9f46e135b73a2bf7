use Rattle.std.proofs.Common.{None, ◌-◌}
use Rattle.jam_codec.specs.Format.{items_at}
use Rattle.jam_fields.specs.ItemLaws.{Ahead}
use Rattle.jam_fields.proofs.row.read_times.Given as goal

abbrev pub invariant-loop : goal.invariant-loop
invariant-loop g l = Ahead g.T.Row.after (items_at g.T.Row.after l.count None l.fn.cursor) l.rows.items (l.count - l.counter) l.cursor
