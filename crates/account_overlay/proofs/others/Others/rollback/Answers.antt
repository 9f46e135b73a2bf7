use Rattle.std.proofs.Common.{subst, ap, sym, ◌∙◌}
use Rattle.std.specs.Ordering.{nat_cmp}
use Rattle.std.specs.Cmp.{nat_cmp_total}
use Rattle.std.specs.FinMap.{nat_cmp-IsAntisymmetric}
use Rattle.account_overlay.specs.Layers.{seen_change, Covered}
use Rattle.account_overlay.specs.Others.{AccountsOver, accounts_of}
use Rattle.account_overlay.proofs.Overs.{rolled_back}
use Rattle.account_overlay.proofs.Added.{kept_rolled, over_is}
use Rattle.account_overlay.proofs.others.Others.rollback.Goals as goal

pub invariant_of-self : goal.invariant_of-self
invariant_of-self c =
    let base = c.self.inside.base.now in
    let old = c.self.inside.layer in
    let new = c.rollback.new.self in
    kept_rolled base c.self.inside.footprints.entries old.places.entries old.journal.items new.places.entries new.journal.items c.self.inside.added c.self.inside.saved_added c.self.invariant
    (subst (Covered nat_cmp new.places.entries) (sym c.rollback.ensures.journal) tt)
    (rolled_back nat_cmp_total nat_cmp-IsAntisymmetric (λ k. k) (seen_change (λ a. a)) base old.places.entries new.places.entries old.journal.items new.journal.items c.rollback.ensures.places c.rollback.ensures.journal)

pub returns : goal.returns
returns c =
    let base = c.self.inside.base.now in
    let old = c.self.inside.layer in
    let new = c.rollback.new.self in
    let was = accounts_of base old.places.entries old.journal.items in
    over_is base (accounts_of base new.places.entries new.journal.items) (record { now = was.saved; saved = was.saved })
    (rolled_back nat_cmp_total nat_cmp-IsAntisymmetric (λ k. k) (seen_change (λ a. a)) base old.places.entries new.places.entries old.journal.items new.journal.items c.rollback.ensures.places c.rollback.ensures.journal)
    ∙ ap (λ (o : AccountsOver). record { base = o.base; now = o.saved; saved = o.saved }) c.self.view_is
