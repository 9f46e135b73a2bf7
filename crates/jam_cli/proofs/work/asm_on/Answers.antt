use Rattle.std.proofs.Common.{ap}
use Rattle.jam_cli.specs.declared.verb.Verb.TheVariants as the
use Rattle.jam_cli.specs.Table.{command}
use Rattle.jam_cli.specs.Command.{asm_work}
use Rattle.jam_cli.proofs.Texts.{worked_out}
use Rattle.jam_cli.proofs.work.asm_on.Goals as goal

pub returns : goal.returns
returns c =
    worked_out (command the.Asm (c.args.text.now, (c.args.out.now, tt))) c.args.files.now c.asm.result (asm_work c.as_str.result.now c.args.out.now)
    (λ files are. (_, (c.in_ok-found.ensures.spelled files are).1, ap (λ text. asm_work text c.args.out.now) c.as_str.ensures.value))
    c.asm.ensures
