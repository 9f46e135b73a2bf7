use Rattle.jam_cli.proofs.work.disasm_on.Goals as goal

pub returns : goal.returns
returns c = λ files are. (_, (c.in_ok-program.ensures.spelled files are).1, c.in_ok-disasm.ensures)
