use Rattle.std.specs.Cmp.Lexicographic.{nat_list_cmp_total}
use Rattle.blake2b_core.specs.Blake2b.{digest}
use Rattle.jam_codec.specs.Format.{any}
use Rattle.jam_codec.specs.Lists.{blob_by_after}
use Rattle.jam_fields.specs.SortedLaws.{list_sorted, blob_by_above}
use Rattle.jam_accounts.specs.Accounts.{bytes_cmp}
use Rattle.state_file.specs.StateFile.{under_digest}
use Rattle.state_file.proofs.preimages.read_preimages.Goals as goal

pub preimages_of-requires : goal.preimages_of-requires
preimages_of-requires c = list_sorted bytes_cmp nat_list_cmp_total under_digest any (blob_by_after digest) (blob_by_above digest) c.args.cursor.now c.in_ok-rows.rows.items c.read_rows.new.cursor c.in_ok-rows.ensures.exact
