use Rattle.std.proofs.Common.{◌-◌}
use Rattle.pvm_invoke.specs.Turns.{stands, Follows}
use Rattle.pvm_invoke.specs.Invocation.{IsAtCall}
use Rattle.pvm_invoke.proofs.turns.make_units.Given as goal

abbrev pub invariant-units : goal.invariant-units
invariant-units g l = record {
  follows : Follows g.H.Host.effect l.fuel l.made (stands l.fn.machine (g.H.Host.held l.fn.host) l.fn.stage) (stands l.machine (g.H.Host.held l.host) l.stage);
  at_call : IsAtCall l.machine l.stage;
}

abbrev pub decreases-units : goal.decreases-units
decreases-units g l = l.fuel - l.made
