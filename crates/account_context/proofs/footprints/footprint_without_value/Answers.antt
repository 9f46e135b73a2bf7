use Rattle.std.proofs.Common.{sym, ◌∙◌}
use Rattle.account_context.specs.Context.{own_account, drop_value}
use Rattle.account_context.proofs.OwnFootprints.{dropped_follows, items_there, octets_there, left_within, left_as}
use Rattle.account_context.proofs.footprints.footprint_without_value.Goals as goal

pub less-requires-clause-items : goal.less-requires-clause-items
less-requires-clause-items g c =
    let pair = g.S.Scope.pair c.args.scope.now in
    let lessens = dropped_follows pair c.service-service.ensures.lawful c.service-service.result c.service-service.ensures.value c.unwrap-before.result (sym c.view.ensures ∙ c.unwrap-before.ensures)
    c.args.key.now c.value.result c.of_value-gone.result c.value.ensures c.of_value-gone.ensures.items c.of_value-gone.ensures.octets in
    items_there (own_account (drop_value pair c.args.key.now)) c.unwrap-before.result.footprint c.of_value-gone.result lessens

pub less-requires-clause-octets : goal.less-requires-clause-octets
less-requires-clause-octets g c =
    let pair = g.S.Scope.pair c.args.scope.now in
    let lessens = dropped_follows pair c.service-service.ensures.lawful c.service-service.result c.service-service.ensures.value c.unwrap-before.result (sym c.view.ensures ∙ c.unwrap-before.ensures)
    c.args.key.now c.value.result c.of_value-gone.result c.value.ensures c.of_value-gone.ensures.items c.of_value-gone.ensures.octets in
    octets_there (own_account (drop_value pair c.args.key.now)) c.unwrap-before.result.footprint c.of_value-gone.result lessens

pub less-requires-clause-below : goal.less-requires-clause-below
less-requires-clause-below g c =
    let pair = g.S.Scope.pair c.args.scope.now in
    let lessens = dropped_follows pair c.service-service.ensures.lawful c.service-service.result c.service-service.ensures.value c.unwrap-before.result (sym c.view.ensures ∙ c.unwrap-before.ensures)
    c.args.key.now c.value.result c.of_value-gone.result c.value.ensures c.of_value-gone.ensures.items c.of_value-gone.ensures.octets in
    left_within (own_account (drop_value pair c.args.key.now)) c.unwrap-before.result.footprint c.of_value-gone.result lessens

pub returns : goal.returns
returns g c =
    let pair = g.S.Scope.pair c.args.scope.now in
    let lessens = dropped_follows pair c.service-service.ensures.lawful c.service-service.result c.service-service.ensures.value c.unwrap-before.result (sym c.view.ensures ∙ c.unwrap-before.ensures)
    c.args.key.now c.value.result c.of_value-gone.result c.value.ensures c.of_value-gone.ensures.items c.of_value-gone.ensures.octets in
    c.less.ensures ∙ left_as (own_account (drop_value pair c.args.key.now)) c.unwrap-before.result.footprint c.of_value-gone.result lessens
