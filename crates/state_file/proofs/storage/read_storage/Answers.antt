use Rattle.std.proofs.Common.{subst, sym, arith, ◌<◌, ◌^◌}
use Rattle.jam_accounts.specs.Footprint.{storage_octets}
use Rattle.state_file.proofs.Octets.{values_small}
use Rattle.std.specs.Cmp.Lexicographic.{nat_list_cmp_total}
use Rattle.jam_codec.specs.Format.{any}
use Rattle.jam_codec.specs.Lists.{blob_where, blob_after}
use Rattle.jam_fields.specs.SortedLaws.{map_sorted, blob_above}
use Rattle.jam_accounts.specs.Accounts.{bytes_cmp}
use Rattle.state_file.proofs.storage.read_storage.Goals as goal

pub storage_of-requires : goal.storage_of-requires
storage_of-requires c = map_sorted bytes_cmp nat_list_cmp_total blob_after (blob_where any) blob_above c.args.cursor.now c.in_ok-entries.entries.items c.read_rows.new.cursor c.in_ok-entries.ensures.exact

pub returns-clause-small : goal.returns-clause-small
returns-clause-small c =
    subst (λ m. storage_octets m < 2 ^ 99) (sym c.in_ok-storage_of.ensures)
    (values_small c.args.cursor.now c.read_rows.new.cursor c.in_ok-entries.entries.items c.in_ok-entries.ensures.exact (omega (arith, c.in_ok-entries.ensures.bound)) (omega (arith, c.in_ok-entries.entries.ok, c.in_ok-entries.entries.small)))
