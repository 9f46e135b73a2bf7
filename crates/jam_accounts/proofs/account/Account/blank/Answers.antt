use Rattle.std.proofs.Common.{arith}
use Rattle.jam_codec.specs.Lists.{hash_and_number_cmp}
use Rattle.jam_accounts.specs.Accounts.{bytes_cmp}
use Rattle.jam_accounts.specs.Footprint.{value_octets, history_octets}
use Rattle.jam_accounts.proofs.Footprints.{no_octets}
use Rattle.jam_accounts.proofs.account.Account.blank.Goals as goal

pub invariant_of-result : goal.invariant_of-result
invariant_of-result c = omega (arith, no_octets bytes_cmp value_octets c.new.result c.new.ensures, no_octets hash_and_number_cmp history_octets c.new-3.result c.new-3.ensures)
