use Rattle.std.specs.FinMap as fin
use Rattle.jam_codec.specs.Lists.{hash_and_number_after, map_entry}
use Rattle.jam_fields.specs.ItemLaws.{AddedWhole}
use Rattle.state_file.specs.StateFile.{history_format}
use Rattle.state_file.proofs.lookups.write_entries.Given as goal

abbrev pub invariant-loop-hash : goal.invariant-loop-hash
invariant-loop-hash l = AddedWhole (map_entry hash_and_number_after history_format) (fin.entries l.lookups) l.hash-iterator l.fn.out.items l.out.items
