use Rattle.std.proofs.Common.{arith, ◌≡◌, None, length}
use Rattle.jam_fields.specs.SortedLaws.{items_length}
use Rattle.jam_fields.proofs.list.read_list.Goals as goal

pub returns-clause-within : goal.returns-clause-within
returns-clause-within g c =
    let count : length c.in_ok-items.items.items ≡ c.in_ok-count.count = items_length (λ _. g.T.Field.format) c.in_ok-count.count None c.read_natural.new.cursor c.in_ok-items.items.items c.read_items.new.cursor c.in_ok-items.ensures.exact in
    omega (arith, c.in_ok-count.ensures.within)
