use Rattle.jam_codec.specs.Lists.{hash_and_number_cmp, hash_and_number_after}
use Rattle.jam_codec.specs.FormatLaws.{hash_and_number_total}
use Rattle.jam_fields.specs.SortedLaws.{map_sorted, hash_and_number_above}
use Rattle.state_file.specs.StateFile.{history_format}
use Rattle.state_file.proofs.lookups.read_lookups.Goals as goal

pub lookups_of-requires : goal.lookups_of-requires
lookups_of-requires c = map_sorted hash_and_number_cmp hash_and_number_total hash_and_number_after history_format hash_and_number_above c.args.cursor.now c.in_ok-entries.entries.items c.read_rows.new.cursor c.in_ok-entries.ensures.exact
