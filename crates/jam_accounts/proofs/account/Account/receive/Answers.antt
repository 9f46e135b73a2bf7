use Rattle.std.proofs.Common.{◌≡◌, length, sym, arith}
use Rattle.jam_accounts.specs.Footprint.{lookups_octets}
use Rattle.jam_accounts.proofs.Footprints.{lookups_replaced}
use Rattle.jam_accounts.proofs.account.Account.receive.Goals as goal

pub invariant_of-self-2 : goal.invariant_of-self-2
invariant_of-self-2 c =
    let same : lookups_octets c.replace.new.self ≡ lookups_octets c.self.inside.lookups =
    lookups_replaced c.self.inside.lookups c.replace.new.self (c.digest-hash.result, length c.args.bytes.now) c.in-Some.history c.in-Some-deliver.delivered (sym c.in-Some.ensures.value) c.replace.ensures.after in
    omega (arith, same, c.self.invariant)
