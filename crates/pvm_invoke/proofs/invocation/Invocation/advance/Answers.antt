use Rattle.std.proofs.Common.{ap, sym, ◌∙◌}
use Rattle.pvm_invoke.specs.Invocation.{Invocation}
use Rattle.pvm_invoke.specs.Turns.{has_ended}
use Rattle.pvm_invoke.proofs.Taken.{taken_paused, taken_paid, taken_list, taken_leaves}
use Rattle.pvm_invoke.proofs.invocation.Invocation.advance.Goals as goal

pub returns-then-self-clause-going : goal.returns-then-self-clause-going
returns-then-self-clause-going g c = ap (λ (v : Invocation). has_ended v.run.stage) (sym c.self.view_is) ∙ c.self.invariant.lost c.if-self.true

pub returns-in-Ok-clause-paused : goal.returns-in-Ok-clause-paused
returns-in-Ok-clause-paused g c =
    taken_paused g.H.Host.effect c.args.fuel c.in-Ok.units _ c.args.self.now.run _ c.in-Ok.ensures.turn (ap (λ (v : Invocation). v.run) c.self.view_is) c.progress_at.result c.progress_at.ensures

pub returns-in-Ok-clause-bounded : goal.returns-in-Ok-clause-bounded
returns-in-Ok-clause-bounded g c =
    taken_paid g.H.Host.effect c.args.fuel c.in-Ok.units _ c.args.self.now.run _ c.in-Ok.ensures.turn (ap (λ (v : Invocation). v.run) c.self.view_is) g.met.H.Host.lawful c.make_units.ensures.schedule

pub returns-in-Ok-clause-list : goal.returns-in-Ok-clause-list
returns-in-Ok-clause-list g c =
    taken_list g.H.Host.effect c.args.fuel c.in-Ok.units _ c.args.self.now.run _ c.in-Ok.ensures.turn (ap (λ (v : Invocation). v.run) c.self.view_is) g.met.H.Host.lawful c.make_units.ensures.schedule

pub returns-in-Ok-clause-leaves : goal.returns-in-Ok-clause-leaves
returns-in-Ok-clause-leaves g c =
    taken_leaves g.H.Host.effect c.args.fuel c.in-Ok.units _ c.args.self.now.run _ c.in-Ok.ensures.turn (ap (λ (v : Invocation). v.run) c.self.view_is) g.met.H.Host.lawful c.make_units.ensures.schedule
