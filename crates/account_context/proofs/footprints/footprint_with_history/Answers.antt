use Rattle.std.proofs.Common.{sym, ◌∙◌}
use Rattle.account_context.specs.Context.{own_account, set_history}
use Rattle.account_context.proofs.OwnFootprints.{history_follows, items_enough, octets_enough, items_within, fits_as}
use Rattle.account_context.proofs.footprints.footprint_with_history.Goals as goal

pub changed-requires-clause-items : goal.changed-requires-clause-items
changed-requires-clause-items g c =
    let pair = g.S.Scope.pair c.args.scope.now in
    let follows = history_follows pair c.service-service.ensures.lawful c.service-service.result c.service-service.ensures.value c.unwrap-before.result (sym c.view.ensures ∙ c.unwrap-before.ensures)
    c.args.hash.now c.args.length c.args.history c.history.result c.of_history-gone.result c.of_history.result c.history.ensures c.of_history-gone.ensures.items c.of_history-gone.ensures.octets c.of_history.ensures.items c.of_history.ensures.octets in
    items_enough (own_account (set_history pair c.args.hash.now c.args.length c.args.history)) c.unwrap-before.result.footprint c.of_history-gone.result c.of_history.result follows

pub changed-requires-clause-octets : goal.changed-requires-clause-octets
changed-requires-clause-octets g c =
    let pair = g.S.Scope.pair c.args.scope.now in
    let follows = history_follows pair c.service-service.ensures.lawful c.service-service.result c.service-service.ensures.value c.unwrap-before.result (sym c.view.ensures ∙ c.unwrap-before.ensures)
    c.args.hash.now c.args.length c.args.history c.history.result c.of_history-gone.result c.of_history.result c.history.ensures c.of_history-gone.ensures.items c.of_history-gone.ensures.octets c.of_history.ensures.items c.of_history.ensures.octets in
    octets_enough (own_account (set_history pair c.args.hash.now c.args.length c.args.history)) c.unwrap-before.result.footprint c.of_history-gone.result c.of_history.result follows

pub changed-requires-clause-below : goal.changed-requires-clause-below
changed-requires-clause-below g c =
    let pair = g.S.Scope.pair c.args.scope.now in
    let follows = history_follows pair c.service-service.ensures.lawful c.service-service.result c.service-service.ensures.value c.unwrap-before.result (sym c.view.ensures ∙ c.unwrap-before.ensures)
    c.args.hash.now c.args.length c.args.history c.history.result c.of_history-gone.result c.of_history.result c.history.ensures c.of_history-gone.ensures.items c.of_history-gone.ensures.octets c.of_history.ensures.items c.of_history.ensures.octets in
    items_within (own_account (set_history pair c.args.hash.now c.args.length c.args.history)) c.unwrap-before.result.footprint c.of_history-gone.result c.of_history.result follows

pub returns : goal.returns
returns g c =
    let pair = g.S.Scope.pair c.args.scope.now in
    let follows = history_follows pair c.service-service.ensures.lawful c.service-service.result c.service-service.ensures.value c.unwrap-before.result (sym c.view.ensures ∙ c.unwrap-before.ensures)
    c.args.hash.now c.args.length c.args.history c.history.result c.of_history-gone.result c.of_history.result c.history.ensures c.of_history-gone.ensures.items c.of_history-gone.ensures.octets c.of_history.ensures.items c.of_history.ensures.octets in
    c.changed.ensures ∙ fits_as (own_account (set_history pair c.args.hash.now c.args.length c.args.history)) c.unwrap-before.result.footprint c.of_history-gone.result c.of_history.result follows
