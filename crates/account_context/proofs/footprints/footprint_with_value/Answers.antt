use Rattle.std.proofs.Common.{sym, ◌∙◌}
use Rattle.account_context.specs.Context.{own_account, put_value}
use Rattle.account_context.proofs.OwnFootprints.{value_follows, items_enough, octets_enough, items_within, fits_as}
use Rattle.account_context.proofs.footprints.footprint_with_value.Goals as goal

pub changed-requires-clause-items : goal.changed-requires-clause-items
changed-requires-clause-items g c =
    let pair = g.S.Scope.pair c.args.scope.now in
    let follows = value_follows pair c.service-service.ensures.lawful c.service-service.result c.service-service.ensures.value c.unwrap-before.result (sym c.view.ensures ∙ c.unwrap-before.ensures)
    c.args.key.now c.args.value.now c.value.result c.of_value-gone.result c.of_value.result c.value.ensures c.of_value-gone.ensures.items c.of_value-gone.ensures.octets c.of_value.ensures.items c.of_value.ensures.octets in
    items_enough (own_account (put_value pair c.args.key.now c.args.value.now)) c.unwrap-before.result.footprint c.of_value-gone.result c.of_value.result follows

pub changed-requires-clause-octets : goal.changed-requires-clause-octets
changed-requires-clause-octets g c =
    let pair = g.S.Scope.pair c.args.scope.now in
    let follows = value_follows pair c.service-service.ensures.lawful c.service-service.result c.service-service.ensures.value c.unwrap-before.result (sym c.view.ensures ∙ c.unwrap-before.ensures)
    c.args.key.now c.args.value.now c.value.result c.of_value-gone.result c.of_value.result c.value.ensures c.of_value-gone.ensures.items c.of_value-gone.ensures.octets c.of_value.ensures.items c.of_value.ensures.octets in
    octets_enough (own_account (put_value pair c.args.key.now c.args.value.now)) c.unwrap-before.result.footprint c.of_value-gone.result c.of_value.result follows

pub changed-requires-clause-below : goal.changed-requires-clause-below
changed-requires-clause-below g c =
    let pair = g.S.Scope.pair c.args.scope.now in
    let follows = value_follows pair c.service-service.ensures.lawful c.service-service.result c.service-service.ensures.value c.unwrap-before.result (sym c.view.ensures ∙ c.unwrap-before.ensures)
    c.args.key.now c.args.value.now c.value.result c.of_value-gone.result c.of_value.result c.value.ensures c.of_value-gone.ensures.items c.of_value-gone.ensures.octets c.of_value.ensures.items c.of_value.ensures.octets in
    items_within (own_account (put_value pair c.args.key.now c.args.value.now)) c.unwrap-before.result.footprint c.of_value-gone.result c.of_value.result follows

pub returns : goal.returns
returns g c =
    let pair = g.S.Scope.pair c.args.scope.now in
    let follows = value_follows pair c.service-service.ensures.lawful c.service-service.result c.service-service.ensures.value c.unwrap-before.result (sym c.view.ensures ∙ c.unwrap-before.ensures)
    c.args.key.now c.args.value.now c.value.result c.of_value-gone.result c.of_value.result c.value.ensures c.of_value-gone.ensures.items c.of_value-gone.ensures.octets c.of_value.ensures.items c.of_value.ensures.octets in
    c.changed.ensures ∙ fits_as (own_account (put_value pair c.args.key.now c.args.value.now)) c.unwrap-before.result.footprint c.of_value-gone.result c.of_value.result follows
