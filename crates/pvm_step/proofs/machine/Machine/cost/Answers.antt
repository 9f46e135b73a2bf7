use Rattle.std.proofs.Common.{rules, sym}
use Rattle.pvm_step.proofs.Steps.{cost_of-plain}
use Rattle.pvm_step.proofs.machine.Machine.cost.Goals as goal

pub returns-then-this-ne0 : goal.returns-then-this-ne0
returns-then-this-ne0 g c = sym (cost_of-plain c.args.self.now.costs c.args.op (c.requires (search rules)))
