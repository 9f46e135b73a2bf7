use Rattle.std.proofs.Common.{◌≡◌, ℕ, ◌++◌, List, ap, sym, subst, ◌∙◌, arith, length, refl}
use Rattle.jam_codec.specs.Format.{Spells}
use Rattle.jam_codec.specs.Spelling.{natural}
use Rattle.byte_numbers.specs.Numbers.{little_endian, AreBytes}
use Rattle.blob_decode.specs.Program.{Program, program_blob}
use Rattle.blob_decode.specs.Kept.{program_of}
use Rattle.blob_decode.proofs.Spelled.{Spells-kept, added}
use Rattle.blob_decode.proofs.program.Program.spell.Goals as goal

pub returns : goal.returns
returns c =
    let bytes : AreBytes c.self.inside.table.items = subst AreBytes c.deref.ensures.value c.in_ok-push_lists.ensures.bytes in
    let size : c.len.result ≡ length c.self.inside.code.items = omega (arith, c.len.ensures, c.self.inside.code.ok.0) in
    let lists : c.deref.result.now ++ (c.deref-2.result.now ++ c.deref-3.result.now) ≡ c.self.inside.table.items ++ (c.self.inside.code.items ++ c.self.inside.mask.items) =
    rw (c.deref.ensures.value, c.deref-2.ensures.value, c.deref-3.ensures.value) refl in
    let out : c.push_lists.new.out.items ≡ natural c.self.inside.count ++ (little_endian 1 c.self.inside.width ++ (natural (length c.self.inside.code.items) ++ (c.self.inside.table.items ++ (c.self.inside.code.items ++ c.self.inside.mask.items)))) =
    added c.new-out.result.items c.push_natural.new.out.items c.push_fixed.new.out.items c.push_natural-2.new.out.items c.push_lists.new.out.items
    (natural c.self.inside.count) (little_endian 1 c.self.inside.width) (natural (length c.self.inside.code.items)) (c.self.inside.table.items ++ (c.self.inside.code.items ++ c.self.inside.mask.items))
    c.new-out.ensures.items
    c.in_ok-push_natural.ensures.ok
    (c.in_ok-push_fixed.ensures.ok ∙ ap (λ (w : ℕ). c.push_natural.new.out.items ++ little_endian 1 w) c.from.ensures)
    (c.in_ok-push_natural-2.ensures.ok ∙ ap (λ (n : ℕ). c.push_fixed.new.out.items ++ natural n) size)
    (c.in_ok-push_lists.ensures.ok ∙ ap (λ (e : List ℕ). c.push_natural-2.new.out.items ++ e) lists) in
    let kept : Program = program_of c.self.inside.count c.self.inside.width c.self.inside.table.items c.self.inside.code.items c.self.inside.mask.items in
    let spells : Spells program_blob kept c.push_lists.new.out.items =
    subst (λ (e : List ℕ). Spells program_blob kept e) (sym out)
    (Spells-kept c.self.inside.count c.self.inside.width c.self.inside.table.items c.self.inside.code.items c.self.inside.mask.items c.self.invariant.0 bytes (omega (arith, size))) in
    subst (λ (p : Program). Spells program_blob p c.push_lists.new.out.items) c.self.view_is spells
