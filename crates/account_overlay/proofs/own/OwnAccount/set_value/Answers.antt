use Rattle.std.proofs.Common.{option_map, refl, ap, sym, subst, ◌∙◌}
use Rattle.jam_accounts.specs.Accounts.{Account}
use Rattle.account_overlay.specs.Layers.{Halves, with_value}
use Rattle.account_overlay.specs.Own.{account_with, with_stored, IsRoomFor}
use Rattle.account_overlay.proofs.Exchanges.{items_enough, octets_enough, bounded, value_exchanged, counted_stored}
use Rattle.account_overlay.proofs.own.OwnAccount.set_value.Goals as goal

pub exchanged-footprint-requires-clause-items : goal.exchanged-footprint-requires-clause-items
exchanged-footprint-requires-clause-items c =
    let own = account_with c.self.inside.view c.self.inside.values.now c.self.inside.preimages.now c.self.inside.histories.now in
    let value = option_map (λ b. b.now) c.args.value in
    let exchanged = value_exchanged own c.args.key.now c.self.inside.view c.self.invariant.counted_now value (subst (λ (h : Halves Account). IsRoomFor c.args.key.now value h.now) (sym c.self.view_is) c.requires)
    c.get.result c.args.value c.of_value-gone.result c.of_value-more.result c.get.ensures refl c.of_value-gone.ensures.items c.of_value-gone.ensures.octets c.of_value-more.ensures.items c.of_value-more.ensures.octets in
    items_enough (with_stored c.args.key.now value own) c.self.inside.view.footprint c.of_value-gone.result c.of_value-more.result exchanged

pub exchanged-footprint-requires-clause-octets : goal.exchanged-footprint-requires-clause-octets
exchanged-footprint-requires-clause-octets c =
    let own = account_with c.self.inside.view c.self.inside.values.now c.self.inside.preimages.now c.self.inside.histories.now in
    let value = option_map (λ b. b.now) c.args.value in
    let exchanged = value_exchanged own c.args.key.now c.self.inside.view c.self.invariant.counted_now value (subst (λ (h : Halves Account). IsRoomFor c.args.key.now value h.now) (sym c.self.view_is) c.requires)
    c.get.result c.args.value c.of_value-gone.result c.of_value-more.result c.get.ensures refl c.of_value-gone.ensures.items c.of_value-gone.ensures.octets c.of_value-more.ensures.items c.of_value-more.ensures.octets in
    octets_enough (with_stored c.args.key.now value own) c.self.inside.view.footprint c.of_value-gone.result c.of_value-more.result exchanged

pub exchanged-footprint-requires-clause-bounded : goal.exchanged-footprint-requires-clause-bounded
exchanged-footprint-requires-clause-bounded c =
    let own = account_with c.self.inside.view c.self.inside.values.now c.self.inside.preimages.now c.self.inside.histories.now in
    let value = option_map (λ b. b.now) c.args.value in
    let exchanged = value_exchanged own c.args.key.now c.self.inside.view c.self.invariant.counted_now value (subst (λ (h : Halves Account). IsRoomFor c.args.key.now value h.now) (sym c.self.view_is) c.requires)
    c.get.result c.args.value c.of_value-gone.result c.of_value-more.result c.get.ensures refl c.of_value-gone.ensures.items c.of_value-gone.ensures.octets c.of_value-more.ensures.items c.of_value-more.ensures.octets in
    bounded (with_stored c.args.key.now value own) c.self.inside.view.footprint c.of_value-gone.result c.of_value-more.result exchanged

pub invariant_of-self-2 : goal.invariant_of-self-2
invariant_of-self-2 c =
    let own = account_with c.self.inside.view c.self.inside.values.now c.self.inside.preimages.now c.self.inside.histories.now in
    let value = option_map (λ b. b.now) c.args.value in
    let exchanged = value_exchanged own c.args.key.now c.self.inside.view c.self.invariant.counted_now value (subst (λ (h : Halves Account). IsRoomFor c.args.key.now value h.now) (sym c.self.view_is) c.requires)
    c.get.result c.args.value c.of_value-gone.result c.of_value-more.result c.get.ensures refl c.of_value-gone.ensures.items c.of_value-gone.ensures.octets c.of_value-more.ensures.items c.of_value-more.ensures.octets in
    counted_stored c.self.inside.view c.self.inside.saved c.self.inside.values c.self.inside.preimages c.self.inside.histories c.self.invariant c.of_value-gone.result c.of_value-more.result c.exchanged-footprint.result c.exchanged-footprint.ensures
    c.args.key.now value c.set.new.self (c.in_ok-set.ensures.ok ∙ ap {B = Halves _} (λ v. record c.self.inside.values { now = with_value c.self.inside.values.now c.args.key.now v }) c.in_ok-copy.ensures) exchanged
