use Rattle.std.proofs.Common.{refl, ◌∙◌}
use Rattle.account_context.specs.Context.{without_value}
use Rattle.host_general.proofs.Own.{short_of}
use Rattle.host_general.proofs.deposits.drop_overdraws.Goals as goal

pub returns : goal.returns
returns g c =
    c.is_short_of.ensures
    ∙ short_of (g.S.Scope.pair c.args.scope.now) c.own_view-own.ensures.there (without_value c.args.key.now) c.own_view-own.result c.own_view-own.ensures.account
    refl refl c.footprint_without_value.result c.footprint_without_value.ensures
