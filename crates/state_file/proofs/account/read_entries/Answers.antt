use Rattle.std.proofs.Common.{arith}
use Rattle.std.specs.Ordering.{nat_cmp}
use Rattle.std.specs.Cmp.{nat_cmp_total}
use Rattle.jam_codec.specs.Lists.{number_after}
use Rattle.jam_fields.specs.SortedLaws.{map_sorted, number_above}
use Rattle.state_file.specs.StateFile.{account_format}
use Rattle.state_file.proofs.account.read_entries.Goals as goal

pub accounts_of-requires : goal.accounts_of-requires
accounts_of-requires g c = (omega arith, map_sorted nat_cmp nat_cmp_total (number_after 4) (account_format g.row.VERSION) (number_above 4) c.args.cursor.now c.in_ok-entries.entries.items c.read_rows.new.cursor c.in_ok-entries.ensures.exact)
