use Rattle.std.proofs.Common.{ap, sym, ◌∙◌, arith}
use Rattle.blob_decode.specs.Program.{Program, skip}
use Rattle.blob_decode.proofs.KeptLaws.{skip-past}
use Rattle.blob_decode.proofs.program.Program.skip.Goals as goal

pub returns-then-pc-len-clause-value : goal.returns-then-pc-len-clause-value
returns-then-pc-len-clause-value c =
    sym (skip-past c.self.inside.count c.self.inside.width c.self.inside.table.items c.self.inside.code.items c.self.inside.mask.items c.args.pc (omega arith))
    ∙ ap (λ (p : Program). skip p c.args.pc) c.self.view_is
