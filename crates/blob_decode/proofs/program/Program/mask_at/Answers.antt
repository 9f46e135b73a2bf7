use Rattle.std.proofs.Common.{◌≡◌, ap, sym, ◌∙◌, arith, ◌/◌, ◌%◌, ◌^◌, get_or, ◌<◌, length, ℕ}
use Rattle.std.specs.Prelude.{◌==◌}
use Rattle.std.proofs.lemmas.List.{get_or_read}
use Rattle.blob_decode.specs.Program.{Program, mask_bit}
use Rattle.blob_decode.proofs.KeptLaws.{mask_bit-kept, mask_bit-past}
use Rattle.blob_decode.proofs.program.Program.mask_at.Goals as goal

pub returns-then-place-len : goal.returns-then-place-len
returns-then-place-len c =
    sym (mask_bit-past c.self.inside.count c.self.inside.width c.self.inside.table.items c.self.inside.code.items c.self.inside.mask.items c.args.place (omega arith))
    ∙ ap (λ (p : Program). mask_bit p c.args.place) c.self.view_is

pub returns : goal.returns
returns c =
    let within : c.args.place / 8 < length c.self.inside.mask.items = omega (arith, c.self.invariant.0.bits) in
    let byte : c.index.result.now ≡ get_or c.self.inside.mask.items (c.args.place / 8) 0 = get_or_read c.self.inside.mask.items (c.args.place / 8) c.index.result.now within c.index.ensures 0 in
    ap (λ (b : ℕ). b / 2 ^ (c.args.place % 8) % 2 == 1) byte
    ∙ sym (mask_bit-kept c.self.inside.count c.self.inside.width c.self.inside.table.items c.self.inside.code.items c.self.inside.mask.items c.args.place c.self.invariant.0 (omega arith))
    ∙ ap (λ (p : Program). mask_bit p c.args.place) c.self.view_is
