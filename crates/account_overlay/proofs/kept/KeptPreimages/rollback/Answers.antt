use Rattle.std.proofs.Common.{ap, ◌∙◌}
use Rattle.std.specs.Cmp.Lexicographic.{nat_list_cmp_total}
use Rattle.jam_accounts.specs.Accounts.{Preimages}
use Rattle.jam_accounts.specs.MapLaws.{bytes_same}
use Rattle.account_overlay.specs.Layers.{Halves, dropped}
use Rattle.account_overlay.proofs.Overs.{rolled_back}
use Rattle.account_overlay.proofs.kept.KeptPreimages.rollback.Goals as goal

pub returns : goal.returns
returns c =
    let old = c.self.inside.layer in
    rolled_back nat_list_cmp_total bytes_same (λ k. k) dropped c.self.inside.base.now old.places.entries c.rollback.new.self.places.entries old.journal.items c.rollback.new.self.journal.items c.rollback.ensures.places c.rollback.ensures.journal
    ∙ ap (λ (h : Halves Preimages). record { now = h.saved; saved = h.saved }) c.self.view_is
