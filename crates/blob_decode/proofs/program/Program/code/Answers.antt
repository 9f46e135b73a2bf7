use Rattle.std.proofs.Common.{ap, sym, ◌∙◌, length}
use Rattle.byte_numbers.specs.Numbers.{little_number}
use Rattle.jam_codec.specs.BitLaws.{length-binary_digits}
use Rattle.blob_decode.specs.Program.{Program}
use Rattle.blob_decode.proofs.program.Program.code.Goals as goal

pub returns-clause-masked : goal.returns-clause-masked
returns-clause-masked c =
    sym (ap (λ (p : Program). length p.mask) c.self.view_is)
    ∙ length-binary_digits (length c.self.inside.code.items) (little_number c.self.inside.mask.items)
    ∙ ap (λ (p : Program). length p.code) c.self.view_is
