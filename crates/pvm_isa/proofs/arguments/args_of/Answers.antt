use Rattle.pvm_isa.specs.declared.form.Form.TheVariants.{F1, F3, F9}
use Rattle.pvm_isa.proofs.Registers.{a_below, b_below, d_below}
use Rattle.pvm_isa.proofs.arguments.args_of.Goals as goal

pub returns-in-F1-clause-a : goal.returns-in-F1-clause-a
returns-in-F1-clause-a c = a_below c.no_arguments.result F1 c.args.code.now c.args.pc c.args.skip (c.no_arguments.ensures.arguments c.args.code.now c.args.pc c.args.skip)

pub returns-in-F1-clause-b : goal.returns-in-F1-clause-b
returns-in-F1-clause-b c = b_below c.no_arguments.result F1 c.args.code.now c.args.pc c.args.skip (c.no_arguments.ensures.arguments c.args.code.now c.args.pc c.args.skip)

pub returns-in-F1-clause-d : goal.returns-in-F1-clause-d
returns-in-F1-clause-d c = d_below c.no_arguments.result F1 c.args.code.now c.args.pc c.args.skip (c.no_arguments.ensures.arguments c.args.code.now c.args.pc c.args.skip)

pub returns-in-F3-clause-b : goal.returns-in-F3-clause-b
returns-in-F3-clause-b c = b_below c.register_and_wide_immediate.result F3 c.args.code.now c.args.pc c.args.skip (c.register_and_wide_immediate.ensures.arguments c.args.skip)

pub returns-in-F3-clause-d : goal.returns-in-F3-clause-d
returns-in-F3-clause-d c = d_below c.register_and_wide_immediate.result F3 c.args.code.now c.args.pc c.args.skip (c.register_and_wide_immediate.ensures.arguments c.args.skip)

pub returns-in-F9-clause-b : goal.returns-in-F9-clause-b
returns-in-F9-clause-b c = b_below c.two_registers.result F9 c.args.code.now c.args.pc c.args.skip (c.two_registers.ensures.arguments c.args.skip)
