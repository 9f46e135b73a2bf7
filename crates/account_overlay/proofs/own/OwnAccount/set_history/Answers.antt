use Rattle.std.proofs.Common.{◌<◌, ◌^◌, sym, subst}
use Rattle.jam_accounts.specs.Accounts.{Account}
use Rattle.jam_accounts.specs.Footprint.{octets_of}
use Rattle.account_context.specs.Context.{with_history}
use Rattle.account_overlay.specs.Layers.{Halves}
use Rattle.account_overlay.specs.Own.{account_with}
use Rattle.account_overlay.proofs.Exchanges.{items_enough, octets_enough, bounded, history_exchanged, counted_history}
use Rattle.account_overlay.proofs.own.OwnAccount.set_history.Goals as goal

pub exchanged-footprint-requires-clause-items : goal.exchanged-footprint-requires-clause-items
exchanged-footprint-requires-clause-items c =
    let own = account_with c.self.inside.view c.self.inside.values.now c.self.inside.preimages.now c.self.inside.histories.now in
    let exchanged = history_exchanged own c.args.hash.now c.args.length c.self.inside.view c.self.invariant.counted_now c.args.history c.get.result
    (subst (λ (h : Halves Account). octets_of (with_history c.args.hash.now c.args.length c.args.history h.now) < 2 ^ 100) (sym c.self.view_is) c.requires)
    c.is_some.result c.is_some-2.result c.of_history-gone.result c.of_history-more.result c.get.ensures c.is_some.ensures c.is_some-2.ensures
    c.of_history-gone.ensures.items c.of_history-gone.ensures.octets c.of_history-more.ensures.items c.of_history-more.ensures.octets in
    items_enough (with_history c.args.hash.now c.args.length c.args.history own) c.self.inside.view.footprint c.of_history-gone.result c.of_history-more.result exchanged

pub exchanged-footprint-requires-clause-octets : goal.exchanged-footprint-requires-clause-octets
exchanged-footprint-requires-clause-octets c =
    let own = account_with c.self.inside.view c.self.inside.values.now c.self.inside.preimages.now c.self.inside.histories.now in
    let exchanged = history_exchanged own c.args.hash.now c.args.length c.self.inside.view c.self.invariant.counted_now c.args.history c.get.result
    (subst (λ (h : Halves Account). octets_of (with_history c.args.hash.now c.args.length c.args.history h.now) < 2 ^ 100) (sym c.self.view_is) c.requires)
    c.is_some.result c.is_some-2.result c.of_history-gone.result c.of_history-more.result c.get.ensures c.is_some.ensures c.is_some-2.ensures
    c.of_history-gone.ensures.items c.of_history-gone.ensures.octets c.of_history-more.ensures.items c.of_history-more.ensures.octets in
    octets_enough (with_history c.args.hash.now c.args.length c.args.history own) c.self.inside.view.footprint c.of_history-gone.result c.of_history-more.result exchanged

pub exchanged-footprint-requires-clause-bounded : goal.exchanged-footprint-requires-clause-bounded
exchanged-footprint-requires-clause-bounded c =
    let own = account_with c.self.inside.view c.self.inside.values.now c.self.inside.preimages.now c.self.inside.histories.now in
    let exchanged = history_exchanged own c.args.hash.now c.args.length c.self.inside.view c.self.invariant.counted_now c.args.history c.get.result
    (subst (λ (h : Halves Account). octets_of (with_history c.args.hash.now c.args.length c.args.history h.now) < 2 ^ 100) (sym c.self.view_is) c.requires)
    c.is_some.result c.is_some-2.result c.of_history-gone.result c.of_history-more.result c.get.ensures c.is_some.ensures c.is_some-2.ensures
    c.of_history-gone.ensures.items c.of_history-gone.ensures.octets c.of_history-more.ensures.items c.of_history-more.ensures.octets in
    bounded (with_history c.args.hash.now c.args.length c.args.history own) c.self.inside.view.footprint c.of_history-gone.result c.of_history-more.result exchanged

pub invariant_of-self-2 : goal.invariant_of-self-2
invariant_of-self-2 c =
    let own = account_with c.self.inside.view c.self.inside.values.now c.self.inside.preimages.now c.self.inside.histories.now in
    let exchanged = history_exchanged own c.args.hash.now c.args.length c.self.inside.view c.self.invariant.counted_now c.args.history c.get.result
    (subst (λ (h : Halves Account). octets_of (with_history c.args.hash.now c.args.length c.args.history h.now) < 2 ^ 100) (sym c.self.view_is) c.requires)
    c.is_some.result c.is_some-2.result c.of_history-gone.result c.of_history-more.result c.get.ensures c.is_some.ensures c.is_some-2.ensures
    c.of_history-gone.ensures.items c.of_history-gone.ensures.octets c.of_history-more.ensures.items c.of_history-more.ensures.octets in
    counted_history c.self.inside.view c.self.inside.saved c.self.inside.values c.self.inside.preimages c.self.inside.histories c.self.invariant c.of_history-gone.result c.of_history-more.result c.exchanged-footprint.result c.exchanged-footprint.ensures
    c.args.hash.now c.args.length c.args.history c.set.new.self c.in_ok-set.ensures.ok exchanged
