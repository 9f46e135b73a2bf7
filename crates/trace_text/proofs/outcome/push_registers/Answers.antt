use Rattle.trace_text.proofs.Lines.{registers_more, registers_all}
use Rattle.trace_text.proofs.outcome.push_registers.Goals as goal

pub loop-k-preserved : goal.loop-k-preserved
loop-k-preserved c = registers_more c.loop-k.lines.items c.push.new.self.items c.args.lines.now.items c.loop-k.k c.args.registers.now c.loop-k-test.true c.loop-k.invariant c.in_ok-push.ensures.items

pub returns : goal.returns
returns c = registers_all c.loop-k.lines.items c.args.lines.now.items c.loop-k.k c.args.registers.now c.loop-k-test.false c.loop-k.invariant
