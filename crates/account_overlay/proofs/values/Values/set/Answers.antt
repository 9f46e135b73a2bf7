use Rattle.std.proofs.Common.{option_map, refl, ap, sym, ◌∙◌}
use Rattle.std.specs.Cmp.Lexicographic.{nat_list_cmp_total}
use Rattle.std.specs.FinMap as fin
use Rattle.jam_accounts.specs.MapLaws.{bytes_same}
use Rattle.account_overlay.specs.declared.layer.Change.TheVariants.{AsBase}
use Rattle.account_overlay.specs.Layers.{seen_change, with_value, held}
use Rattle.account_overlay.proofs.Overs.{set_halves, held_becomes, at_itself, both_ok}
use Rattle.account_overlay.proofs.values.Values.set.Goals as goal

pub set-requires : goal.set-requires
set-requires c = at_itself nat_list_cmp_total c.in_ok-place.place.items c.in_ok-undo.undo.items (c.in_ok-place.ensures.items ∙ sym c.in_ok-undo.ensures.items)

pub returns-clause-ok : goal.returns-clause-ok
returns-clause-ok c =
    let old = c.self.inside.layer in
    let base = c.self.inside.base.now in
    let place = c.in_ok-place.place in
    let value = option_map (λ v. v.items) c.args.value in
    let stands = ap (λ change. held (seen_change (λ v. v.items) change) (fin.get base place.items)) c.to.ensures ∙ held_becomes (λ v. v.items) c.args.value (fin.get base place.items) in
    both_ok c.set.result c.set.ensures.places c.set.ensures.journal (λ places journal.
    set_halves nat_list_cmp_total bytes_same (λ k. k.items) (seen_change (λ v. v.items)) base old.places.entries c.set.new.self.places.entries old.journal.items c.set.new.self.journal.items
    place c.in_ok-undo.undo c.to.result AsBase refl (c.in_ok-undo.ensures.items ∙ sym c.in_ok-place.ensures.items) places journal value stands
    ∙ (λ i. record { now = with_value (c.self.view_is i).now (c.in_ok-place.ensures.items i) value; saved = (c.self.view_is i).saved }))
