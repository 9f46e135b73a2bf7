use Rattle.std.proofs.Common.{◌≡◌, ◌≤◌, ◌+◌, ◌/◌, ◌%◌, ◌^◌, ◌*◌, ◌++◌, [], ◌∷◌, ℕ, List, length, get_or, set, ap, sym, subst, ◌∙◌, arith}
use Rattle.std.specs.Prelude.{bit_or}
use Rattle.std.proofs.lemmas.List.{get_or_read, length-append}
use Rattle.std.proofs.Math.Nat.{pow-le-pow_right}
use Rattle.std.proofs.Common.{lit<}
use Rattle.blob_decode.specs.Kept.{AreMarks}
use Rattle.blob_decode.proofs.Marks.{AreMarks-made}
use Rattle.blob_decode.proofs.program.marks_of.Goals as goal

pub returns : goal.returns
returns c =
    let mask : List ℕ = c.args.mask.now in
    let size : ℕ = c.args.size in
    let padded : c.extend_from_slice.new.self.items ≡ mask ++ (0 ∷ 0 ∷ 0 ∷ 0 ∷ []) =
    c.in_ok-extend_from_slice.ensures.items ∙ ap (λ (bytes : List ℕ). bytes ++ (0 ∷ 0 ∷ 0 ∷ 0 ∷ [])) c.in_ok-marks.ensures.items in
    let long : length c.extend_from_slice.new.self.items ≡ length c.args.mask.now + 4 = ap length padded ∙ length-append mask (0 ∷ 0 ∷ 0 ∷ 0 ∷ []) in
    let byte : c.index_mut.result.now ≡ get_or (mask ++ (0 ∷ 0 ∷ 0 ∷ 0 ∷ [])) (size / 8) 0 =
    get_or_read c.extend_from_slice.new.self.items (size / 8) c.index_mut.result.now (omega (arith, long, c.requires)) c.index_mut.ensures.value 0
    ∙ ap (λ (bytes : List ℕ). get_or bytes (size / 8) 0) padded in
    let low : 2 ^ (size % 8) ≤ 2 ^ 7 = pow-le-pow_right (lit< tt) {i = size % 8} {j = 7} (omega arith) in
    subst (λ (bytes : List ℕ). AreMarks size mask (set bytes (size / 8) (bit_or c.index_mut.result.now (1 * 2 ^ (size % 8) % 256)))) (sym padded)
    (AreMarks-made size c.index_mut.result.now (1 * 2 ^ (size % 8) % 256) mask c.requires (λ k. omega (arith, c.type_inv.mask k)) byte (omega (arith, low)))
