use Rattle.std.proofs.Common.{◌≡◌, ◌≤◌, None}
use Rattle.pvm_step.specs.Machine.{ChangesStateAlone, moment, with_gas}
use Rattle.pvm_step.specs.History.{reached, states}
use Rattle.pvm_step.specs.Watched.{paid_instructions, WasTold}
use Rattle.pvm_step.proofs.machine.Machine.go.Given as goal

abbrev pub invariant-steps : goal.invariant-steps
invariant-steps g l = record {
  rest : ChangesStateAlone l.fn.self l.self;
  place : l.pc ≡ l.self.pc;
  gas : l.left ≤ l.fn.self.gas;
  here : with_gas l.self l.left None ≡ reached l.made l.fn.self.program (moment l.fn.self None);
  told : WasTold g.W.Watcher.HasSeen l.fn.watcher l.watcher (paid_instructions 1 l.fn.self.program (states l.made l.fn.self.program (moment l.fn.self None)));
}
