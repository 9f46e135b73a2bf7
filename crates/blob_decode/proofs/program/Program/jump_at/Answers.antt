use Rattle.std.proofs.Common.{ap, sym, ◌∙◌, arith, slice_get}
use Rattle.byte_numbers.specs.NumberLaws.{numbers-past}
use Rattle.blob_decode.specs.Program.{Program}
use Rattle.blob_decode.proofs.KeptLaws.{jump-kept}
use Rattle.blob_decode.proofs.program.Program.jump_at.Goals as goal

pub returns-then-k-self : goal.returns-then-k-self
returns-then-k-self c =
    sym (numbers-past c.self.inside.width c.self.inside.count c.args.k c.self.inside.table.items (omega arith))
    ∙ ap (λ (p : Program). slice_get p.jumps c.args.k) c.self.view_is

pub returns : goal.returns
returns c =
    jump-kept c.self.inside.count c.self.inside.width c.args.k c.from-width.result c.number_of.result c.self.inside.table.items c.deref.result.now c.if-k-self.false c.from-width.ensures c.deref.ensures.value c.number_of.ensures.value
    ∙ ap (λ (p : Program). slice_get p.jumps c.args.k) c.self.view_is
