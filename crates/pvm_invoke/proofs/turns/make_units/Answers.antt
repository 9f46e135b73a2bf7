use Rattle.std.proofs.Common.{◌+◌, sym, ◌∙◌}
use Rattle.pvm_invoke.specs.Turns.{stands}
use Rattle.pvm_invoke.proofs.Following.{follows-then, all_made, ended_before}
use Rattle.pvm_invoke.proofs.turns.make_units.Goals as goal

pub returns-then-has_ended-clause-turn : goal.returns-then-has_ended-clause-turn
returns-then-has_ended-clause-turn g c =
    ended_before g.H.Host.effect c.args.fuel (c.units.made + c.in_ok-more.more) _ _
    (follows-then g.H.Host.effect c.args.fuel c.units.made c.in_ok-more.more (stands c.args.machine.now (g.H.Host.held c.args.host.now) c.args.stage.now)
    (stands c.units.machine (g.H.Host.held c.units.host) c.units.stage) (stands c.make_more.new.machine (g.H.Host.held c.make_more.new.host) c.in_ok-more.next)
    c.units.invariant.follows c.in_ok-more.ensures.follows)
    (sym c.has_ended.ensures ∙ c.if-has_ended.true)

pub returns-clause-turn : goal.returns-clause-turn
returns-clause-turn g c = all_made g.H.Host.effect c.args.fuel c.units.made _ _ c.units.invariant.follows c.units-test.false
