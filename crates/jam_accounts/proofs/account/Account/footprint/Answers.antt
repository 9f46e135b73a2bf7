use Rattle.std.proofs.Common.{◌≡◌, ◌+◌, ap, sym, ◌∙◌}
use Rattle.jam_accounts.specs.Footprint.{footprint_of, storage_octets, lookups_octets}
use Rattle.jam_accounts.proofs.Footprints.{counted, bounded, fitted}
use Rattle.jam_accounts.proofs.account.Account.footprint.Goals as goal

pub new-requires : goal.new-requires
new-requires c =
    bounded c.self.inside.storage c.self.inside.lookups c.len.result c.len-2.result c.unwrap.result c.unwrap-2.result
    c.len.ensures.count c.len-2.ensures.count
    (fitted (storage_octets c.self.inside.storage) c.unwrap.result (sym c.octets.ensures ∙ c.unwrap.ensures))
    (fitted (lookups_octets c.self.inside.lookups) c.unwrap-2.result (sym c.octets-2.ensures ∙ c.unwrap-2.ensures))
    c.self.invariant

pub returns-clause-value : goal.returns-clause-value
returns-clause-value c =
    let values : c.unwrap.result ≡ storage_octets c.self.inside.storage = fitted (storage_octets c.self.inside.storage) c.unwrap.result (sym c.octets.ensures ∙ c.unwrap.ensures) in
    let histories : c.unwrap-2.result ≡ lookups_octets c.self.inside.lookups = fitted (lookups_octets c.self.inside.lookups) c.unwrap-2.result (sym c.octets-2.ensures ∙ c.unwrap-2.ensures) in
    c.new.ensures
    ∙ (λ i. record {
      items = counted c.self.inside.storage c.self.inside.lookups c.len.result c.len-2.result c.len.ensures.count c.len-2.ensures.count i;
      octets = values i + histories i;
    })
    ∙ ap footprint_of c.self.view_is
