use Rattle.std.specs.FinMap as fin
use Rattle.jam_codec.specs.Lists.{number_after, map_entry}
use Rattle.jam_fields.specs.ItemLaws.{AddedWhole}
use Rattle.state_file.specs.StateFile.{account_format}
use Rattle.state_file.proofs.account.write_entries.Given as goal

abbrev pub invariant-loop-id : goal.invariant-loop-id
invariant-loop-id l = AddedWhole (map_entry (number_after 4) (account_format l.version)) (fin.entries l.accounts) l.id-iterator l.fn.out.items l.out.items
