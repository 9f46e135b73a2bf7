use Rattle.std.proofs.Common.{refl, ◌∙◌}
use Rattle.account_context.specs.Context.{with_value}
use Rattle.host_general.proofs.Own.{short_of_fitting, short_beyond}
use Rattle.host_general.proofs.deposits.put_overdraws.Goals as goal

pub returns-in-Some-clause-overdrawn : goal.returns-in-Some-clause-overdrawn
returns-in-Some-clause-overdrawn g c =
    c.is_short_of.ensures
    ∙ short_of_fitting (g.S.Scope.pair c.args.scope.now) c.own_view-own.ensures.there (with_value c.args.key.now c.args.value.now) c.own_view-own.result c.own_view-own.ensures.account
    refl refl c.in-Some.footprint c.in-Some.ensures

pub returns-in-None-clause-overdrawn : goal.returns-in-None-clause-overdrawn
returns-in-None-clause-overdrawn g c =
    short_beyond (g.S.Scope.pair c.args.scope.now) c.own_view-own.ensures.there (with_value c.args.key.now c.args.value.now) c.own_view-own.result c.own_view-own.ensures.account
    refl refl c.own_view-own.ensures.balance c.own_view-own.ensures.gratis c.in-None.ensures
