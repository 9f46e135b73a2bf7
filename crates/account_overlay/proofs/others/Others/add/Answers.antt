use Rattle.std.proofs.Common.{◌+◌, Some, refl, ap, ◌∙◌}
use Rattle.std.specs.Cmp.{nat_cmp_total}
use Rattle.std.specs.FinMap as fin
use Rattle.std.specs.FinMap.{nat_cmp-IsAntisymmetric}
use Rattle.account_overlay.specs.declared.layer.Change.TheVariants.{AsBase, Is}
use Rattle.account_overlay.specs.Layers.{seen_change}
use Rattle.account_overlay.specs.Others.{AccountsOver, accounts_of, added_count}
use Rattle.account_overlay.proofs.Overs.{set_halves}
use Rattle.account_overlay.proofs.Added.{neither_left, neither_found, count_added, kept_set, over_is, few_more, one_more}
use Rattle.account_overlay.proofs.others.Others.add.Goals as goal

pub invariant_of-self-2 : goal.invariant_of-self-2
invariant_of-self-2 c =
    let base = c.self.inside.base.now in
    let old = c.self.inside.layer in
    let new = c.set.new.self in
    let now = (accounts_of base old.places.entries old.journal.items).now in
    let seen = c.self.view_is in
    let absent = ap (λ (o : AccountsOver). fin.contains_key o.base c.args.id) seen ∙ neither_left _ _ c.requires.free in
    let none = ap (λ (o : AccountsOver). fin.get o.now c.args.id) seen ∙ neither_found _ (fin.get c.args.self.now.now c.args.id) c.requires.free in
    let halves = set_halves nat_cmp_total nat_cmp-IsAntisymmetric (λ k. k) (seen_change (λ a. a)) base old.places.entries new.places.entries old.journal.items new.journal.items c.args.id c.args.id (Is c.new-counted.result) AsBase refl refl
    c.in_ok-set.ensures.places c.in_ok-set.ensures.journal (Some c.new-counted.result) refl in
    kept_set base c.self.inside.footprints.entries old.places.entries old.journal.items new.places.entries new.journal.items c.self.inside.added c.self.inside.saved_added c.self.invariant
    (c.set.ensures.covered c.self.invariant.covered) (fin.insert now c.args.id c.new-counted.result) (c.self.inside.added + 1) halves
    (one_more c.self.inside.added (added_count base now) (added_count base (fin.insert now c.args.id c.new-counted.result)) c.self.invariant.added_now (count_added base now c.args.id c.new-counted.result absent none))
    (few_more (fin.len c.args.self.now.base) c.self.inside.added (added_count c.args.self.now.base c.args.self.now.now) (c.self.invariant.added_now ∙ ap (λ (o : AccountsOver). added_count o.base o.now) seen) c.requires.few)

pub returns-clause-ok : goal.returns-clause-ok
returns-clause-ok c =
    let base = c.self.inside.base.now in
    let old = c.self.inside.layer in
    let new = c.set.new.self in
    let was = accounts_of base old.places.entries old.journal.items in
    over_is base (accounts_of base new.places.entries new.journal.items) (record { now = fin.insert was.now c.args.id c.new-counted.result; saved = was.saved })
    (set_halves nat_cmp_total nat_cmp-IsAntisymmetric (λ k. k) (seen_change (λ a. a)) base old.places.entries new.places.entries old.journal.items new.journal.items c.args.id c.args.id (Is c.new-counted.result) AsBase refl refl
    c.in_ok-set.ensures.places c.in_ok-set.ensures.journal (Some c.new-counted.result) refl)
    ∙ (λ i. record { base = (c.self.view_is i).base; now = fin.insert (c.self.view_is i).now c.args.id (c.new-counted.ensures i); saved = (c.self.view_is i).saved })
