use Rattle.std.proofs.Common.{◌-◌, None, IsSome, refl, ap, sym, subst, ◌∙◌}
use Rattle.std.specs.Cmp.{nat_cmp_total}
use Rattle.std.specs.FinMap as fin
use Rattle.std.specs.FinMap.{nat_cmp-IsAntisymmetric}
use Rattle.account_overlay.specs.declared.layer.Change.TheVariants.{AsBase, Gone}
use Rattle.account_overlay.specs.Layers.{seen_change}
use Rattle.account_overlay.specs.Others.{AccountsOver, accounts_of, added_count}
use Rattle.account_overlay.proofs.Overs.{set_halves}
use Rattle.account_overlay.proofs.Added.{missing_is, not_there, there, count_removed, added_without, kept_set, over_is, some_added, one_less, few_less}
use Rattle.account_overlay.proofs.others.Others.remove.Goals as goal

pub overflow_sub-self : goal.overflow_sub-self
overflow_sub-self c =
    let base = c.self.inside.base.now in
    let old = c.self.inside.layer in
    let new = c.set.new.self in
    let now = (accounts_of base old.places.entries old.journal.items).now in
    let gone = missing_is c.get.result (fin.get base c.args.id) c.is_none-is_new.result c.get.ensures c.is_none-is_new.ensures ∙ c.if-is_new.true in
    let less = count_removed base now c.args.id (not_there (fin.contains_key base c.args.id) gone) (subst IsSome (sym (ap (λ (o : AccountsOver). fin.get o.now c.args.id) c.self.view_is)) c.requires) in
    some_added c.self.inside.added (added_count base now) (added_count base (fin.remove now c.args.id)) c.self.invariant.added_now less

pub invariant_of-self-then-is_new : goal.invariant_of-self-then-is_new
invariant_of-self-then-is_new c =
    let base = c.self.inside.base.now in
    let old = c.self.inside.layer in
    let new = c.set.new.self in
    let now = (accounts_of base old.places.entries old.journal.items).now in
    let gone = missing_is c.get.result (fin.get base c.args.id) c.is_none-is_new.result c.get.ensures c.is_none-is_new.ensures ∙ c.if-is_new.true in
    let less = count_removed base now c.args.id (not_there (fin.contains_key base c.args.id) gone) (subst IsSome (sym (ap (λ (o : AccountsOver). fin.get o.now c.args.id) c.self.view_is)) c.requires) in
    let halves = set_halves nat_cmp_total nat_cmp-IsAntisymmetric (λ k. k) (seen_change (λ a. a)) base old.places.entries new.places.entries old.journal.items new.journal.items c.args.id c.args.id Gone AsBase refl refl
    c.in_ok-set.ensures.places c.in_ok-set.ensures.journal None refl in
    kept_set base c.self.inside.footprints.entries old.places.entries old.journal.items new.places.entries new.journal.items c.self.inside.added c.self.inside.saved_added c.self.invariant
    (c.set.ensures.covered c.self.invariant.covered) (fin.remove now c.args.id) (c.self.inside.added - 1) halves
    (one_less c.self.inside.added (added_count base now) (added_count base (fin.remove now c.args.id)) c.self.invariant.added_now less)
    (few_less c.self.inside.added c.self.invariant.few_now)

pub invariant_of-self-else-is_new : goal.invariant_of-self-else-is_new
invariant_of-self-else-is_new c =
    let base = c.self.inside.base.now in
    let old = c.self.inside.layer in
    let new = c.set.new.self in
    let now = (accounts_of base old.places.entries old.journal.items).now in
    let gone = missing_is c.get.result (fin.get base c.args.id) c.is_none-is_new.result c.get.ensures c.is_none-is_new.ensures ∙ c.if-is_new.false in
    let same = added_without base now c.args.id (there (fin.contains_key base c.args.id) gone) in
    let halves = set_halves nat_cmp_total nat_cmp-IsAntisymmetric (λ k. k) (seen_change (λ a. a)) base old.places.entries new.places.entries old.journal.items new.journal.items c.args.id c.args.id Gone AsBase refl refl
    c.in_ok-set.ensures.places c.in_ok-set.ensures.journal None refl in
    kept_set base c.self.inside.footprints.entries old.places.entries old.journal.items new.places.entries new.journal.items c.self.inside.added c.self.inside.saved_added c.self.invariant
    (c.set.ensures.covered c.self.invariant.covered) (fin.remove now c.args.id) c.self.inside.added halves
    (c.self.invariant.added_now ∙ ap fin.len (sym same))
    c.self.invariant.few_now

pub returns-then-is_new-clause-ok : goal.returns-then-is_new-clause-ok
returns-then-is_new-clause-ok c =
    let base = c.self.inside.base.now in
    let old = c.self.inside.layer in
    let new = c.set.new.self in
    let was = accounts_of base old.places.entries old.journal.items in
    over_is base (accounts_of base new.places.entries new.journal.items) (record { now = fin.remove was.now c.args.id; saved = was.saved })
    (set_halves nat_cmp_total nat_cmp-IsAntisymmetric (λ k. k) (seen_change (λ a. a)) base old.places.entries new.places.entries old.journal.items new.journal.items c.args.id c.args.id Gone AsBase refl refl
    c.in_ok-set.ensures.places c.in_ok-set.ensures.journal None refl)
    ∙ ap (λ (o : AccountsOver). record { base = o.base; now = fin.remove o.now c.args.id; saved = o.saved }) c.self.view_is

pub returns-else-is_new-clause-ok : goal.returns-else-is_new-clause-ok
returns-else-is_new-clause-ok c =
    let base = c.self.inside.base.now in
    let old = c.self.inside.layer in
    let new = c.set.new.self in
    let was = accounts_of base old.places.entries old.journal.items in
    over_is base (accounts_of base new.places.entries new.journal.items) (record { now = fin.remove was.now c.args.id; saved = was.saved })
    (set_halves nat_cmp_total nat_cmp-IsAntisymmetric (λ k. k) (seen_change (λ a. a)) base old.places.entries new.places.entries old.journal.items new.journal.items c.args.id c.args.id Gone AsBase refl refl
    c.in_ok-set.ensures.places c.in_ok-set.ensures.journal None refl)
    ∙ ap (λ (o : AccountsOver). record { base = o.base; now = fin.remove o.now c.args.id; saved = o.saved }) c.self.view_is
