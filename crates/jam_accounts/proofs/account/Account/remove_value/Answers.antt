use Rattle.jam_accounts.specs.Footprint.{lookups_octets}
use Rattle.jam_accounts.proofs.Footprints.{storage_less}
use Rattle.jam_accounts.proofs.account.Account.remove_value.Goals as goal

pub invariant_of-self : goal.invariant_of-self
invariant_of-self c = storage_less c.self.inside.storage c.remove.new.self c.args.key.now (lookups_octets c.self.inside.lookups) c.remove.ensures.after c.self.invariant
