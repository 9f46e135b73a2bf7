use Rattle.std.proofs.Common.{ℕ, sym, subst}
use Rattle.pvm_invoke.specs.declared.stage.Stage.{Stage}
use Rattle.pvm_invoke.specs.declared.stage.Stage.TheVariants.{Awaits}
use Rattle.pvm_invoke.specs.Turns.{stands, IsTurn, Follows}
use Rattle.pvm_invoke.specs.Invocation.{HasMoved}
use Rattle.pvm_invoke.proofs.Following.{follows-once, once_moves}
use Rattle.pvm_invoke.proofs.Calling.{weaker}
use Rattle.pvm_invoke.proofs.turns.make_more.Goals as goal

pub returns-in-Awaits-clause-follows : goal.returns-in-Awaits-clause-follows
returns-in-Awaits-clause-follows g c =
    weaker
    (λ (turn : ℕ × Stage). IsTurn g.H.Host.effect 1 turn.0 (stands c.args.machine.now (g.H.Host.held c.args.host.now) (Awaits c.in-Awaits.number)) (stands c.make_call.new.machine (g.H.Host.held c.make_call.new.host) turn.1))
    (λ (turn : ℕ × Stage). Follows g.H.Host.effect c.args.fuel turn.0 (stands c.args.machine.now (g.H.Host.held c.args.host.now) c.args.stage) (stands c.make_call.new.machine (g.H.Host.held c.make_call.new.host) turn.1))
    c.make_call.result
    (λ turn made.
    subst (λ stage. Follows g.H.Host.effect c.args.fuel turn.0 (stands c.args.machine.now (g.H.Host.held c.args.host.now) stage) (stands c.make_call.new.machine (g.H.Host.held c.make_call.new.host) turn.1)) (sym c.in-Awaits.is)
    (follows-once g.H.Host.effect c.args.fuel turn.0 _ _ c.requires.some made.here made.count))
    c.make_call.ensures.turn

pub returns-in-Awaits-clause-moves : goal.returns-in-Awaits-clause-moves
returns-in-Awaits-clause-moves g c =
    weaker
    (λ (turn : ℕ × Stage). IsTurn g.H.Host.effect 1 turn.0 (stands c.args.machine.now (g.H.Host.held c.args.host.now) (Awaits c.in-Awaits.number)) (stands c.make_call.new.machine (g.H.Host.held c.make_call.new.host) turn.1))
    (λ (turn : ℕ × Stage). HasMoved turn.0 turn.1)
    c.make_call.result
    (λ turn made. once_moves g.H.Host.effect turn.0 _ (stands c.make_call.new.machine (g.H.Host.held c.make_call.new.host) turn.1) made.here made.count)
    c.make_call.ensures.turn
