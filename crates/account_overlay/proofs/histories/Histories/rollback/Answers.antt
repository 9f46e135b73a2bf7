use Rattle.std.proofs.Common.{ap, ◌∙◌}
use Rattle.jam_codec.specs.FormatLaws.{hash_and_number_total}
use Rattle.jam_accounts.specs.Accounts.{Lookups}
use Rattle.jam_accounts.specs.MapLaws.{lookups_same}
use Rattle.account_overlay.specs.Layers.{Halves, seen_change}
use Rattle.account_overlay.proofs.Overs.{rolled_back}
use Rattle.account_overlay.proofs.histories.Histories.rollback.Goals as goal

pub returns : goal.returns
returns c =
    let old = c.self.inside.layer in
    rolled_back hash_and_number_total lookups_same (λ k. k) (seen_change (λ v. v)) c.self.inside.base.now old.places.entries c.rollback.new.self.places.entries old.journal.items c.rollback.new.self.journal.items c.rollback.ensures.places c.rollback.ensures.journal
    ∙ ap (λ (h : Halves Lookups). record { now = h.saved; saved = h.saved }) c.self.view_is
