use Rattle.std.proofs.Common.{ap, sym, ◌∙◌, length}
use Rattle.byte_numbers.specs.NumberLaws.{length-numbers}
use Rattle.blob_decode.specs.Program.{Program}
use Rattle.blob_decode.proofs.program.Program.jump_count.Goals as goal

pub returns : goal.returns
returns c =
    sym (length-numbers c.self.inside.width c.self.inside.count c.self.inside.table.items)
    ∙ ap (λ (p : Program). length p.jumps) c.self.view_is
