use Rattle.std.specs.FinMap as fin
use Rattle.jam_codec.specs.Format.{any}
use Rattle.jam_codec.specs.Lists.{blob_where, blob_after, map_entry}
use Rattle.jam_fields.specs.ItemLaws.{AddedWhole}
use Rattle.state_file.proofs.storage.write_entries.Given as goal

abbrev pub invariant-loop-key : goal.invariant-loop-key
invariant-loop-key l = AddedWhole (map_entry blob_after (blob_where any)) (fin.entries l.storage) l.key-iterator l.fn.out.items l.out.items
