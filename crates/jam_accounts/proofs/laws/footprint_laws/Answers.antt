use Rattle.jam_accounts.specs.FootprintLaws.{items_counted, items_below, value_put, value_removed, history_put, history_removed}
use Rattle.jam_accounts.proofs.laws.footprint_laws.Goals as goal

pub returns : goal.returns
returns c = record {
  items = items_counted;
  below = items_below;
  value_put = value_put;
  value_removed = value_removed;
  history_put = history_put;
  history_removed = history_removed;
}
