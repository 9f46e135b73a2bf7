-- The marks are the mask's bits, and one more after them.
use Rattle.std.proofs.Common.{◌≡◌, ◌≢◌, ℕ, zero, suc, ◌+◌, ◌-◌, ◌/◌, ◌%◌, ◌^◌, ◌<◌, ◌≤◌, List, [], ◌∷◌, ◌++◌, length, get_or, set, refl, arith, ap, sym, ◌∙◌, inl, inr, lit<}
use Rattle.std.specs.Prelude.{bit_or}
use Rattle.std.specs.Int.{bit_at}
use Rattle.std.proofs.Math.Nat.{pow-le-pow_right}
use Rattle.std.proofs.lemmas.Bool.{cases_eq, cases_lt}
use Rattle.std.proofs.lemmas.List.{get_or-set_same, get_or-set_other, get_or_append_left, get_or-append_right, length-set, length-append}
use Rattle.std.proofs.lemmas.Nat.{or_lt}
use Rattle.std.proofs.lemmas.Nat.Bits.{bit_at_or, bit_at-pow_same, bit_at-pow_other, bit_at-lt}
use Rattle.jam_codec.specs.Spelling.{bytes_for}
use Rattle.byte_numbers.specs.Numbers.{AreBytes}
use Rattle.blob_decode.specs.Kept.{AreMarks}

abbrev zeros : List ℕ
zeros = 0 ∷ 0 ∷ 0 ∷ 0 ∷ []

AreBytes-zeros : AreBytes zeros
AreBytes-zeros zero = lit< tt
AreBytes-zeros (suc zero) = lit< tt
AreBytes-zeros (suc (suc zero)) = lit< tt
AreBytes-zeros (suc (suc (suc zero))) = lit< tt
AreBytes-zeros (suc (suc (suc (suc k)))) = lit< tt

AreBytes-append : (xs ys : List ℕ) → AreBytes xs → AreBytes ys → AreBytes (xs ++ ys)
AreBytes-append xs ys left right k = elim (cases_lt k (length xs)) [
  | inl less ↦ omega (arith, get_or_append_left xs ys 0 k less, left k)
  | inr more ↦ omega (arith, get_or-append_right xs ys (length xs) k 0 refl more, right (k - length xs))
]

AreBytes-set : (xs : List ℕ) (i byte : ℕ) → i < length xs → byte < 256 → AreBytes xs → AreBytes (set xs i byte)
AreBytes-set xs i byte within small are k = elim (cases_eq k i) [
  | inl same ↦ omega (arith, ap (λ (j : ℕ). get_or (set xs i byte) j 0) same, get_or-set_same xs i byte 0 within, small)
  | inr other ↦ omega (arith, get_or-set_other xs i k byte 0 other, are k)
]

pub AreMarks-made : (size byte one : ℕ) (mask : List ℕ) → length mask ≡ bytes_for size → AreBytes mask → byte ≡ get_or (mask ++ zeros) (size / 8) 0 → one ≡ 2 ^ (size % 8)
    → AreMarks size mask (set (mask ++ zeros) (size / 8) (bit_or byte one))
AreMarks-made size byte one mask sized are is bit =
    let padded : List ℕ = mask ++ zeros in
    let long : length (mask ++ zeros) ≡ length mask + 4 = length-append mask zeros in
    let within : size / 8 < length (mask ++ zeros) = omega (arith, long, sized) in
    let all : AreBytes (mask ++ zeros) = AreBytes-append mask zeros are AreBytes-zeros in
    let low : 2 ^ (size % 8) ≤ 2 ^ 7 = pow-le-pow_right (lit< tt) {i = size % 8} {j = 7} (omega arith) in
    let small : bit_or byte one < 2 ^ 8 = or_lt 8 byte one (omega (arith, is, all (size / 8))) (omega (arith, bit, low)) in
    record {
      long = length-set padded (size / 8) (bit_or byte one) ∙ long;
      bytes = AreBytes-set padded (size / 8) (bit_or byte one) within (omega (arith, small)) all;
      same = λ i less.
          let inside : i / 8 < length mask = omega (arith, sized) in
          let before : get_or (mask ++ zeros) (i / 8) 0 ≡ get_or mask (i / 8) 0 = get_or_append_left mask zeros 0 (i / 8) inside in
          elim (cases_eq (i / 8) (size / 8)) [
            | inl here ↦
                let other : i % 8 ≢ size % 8 = λ e. omega (arith, e, here, less) in
                let now : get_or (set (mask ++ zeros) (size / 8) (bit_or byte one)) (i / 8) 0 ≡ bit_or byte one =
                ap (λ (j : ℕ). get_or (set (mask ++ zeros) (size / 8) (bit_or byte one)) j 0) here ∙ get_or-set_same padded (size / 8) (bit_or byte one) 0 within in
                let was : byte ≡ get_or mask (i / 8) 0 = is ∙ ap (λ (j : ℕ). get_or (mask ++ zeros) j 0) (sym here) ∙ before in
                let unset : bit_at one (i % 8) ≡ 0 = ap (λ (x : ℕ). bit_at x (i % 8)) bit ∙ bit_at-pow_other (size % 8) (i % 8) other in
                ap (λ (x : ℕ). bit_at x (i % 8)) now
                ∙ omega (arith, bit_at_or byte one (i % 8), unset)
                ∙ ap (λ (x : ℕ). bit_at x (i % 8)) was
            | inr away ↦ ap (λ (x : ℕ). bit_at x (i % 8)) (get_or-set_other padded (size / 8) (i / 8) (bit_or byte one) 0 away ∙ before)
          ];
      end =
          let set_there : bit_at one (size % 8) ≡ 1 = ap (λ (x : ℕ). bit_at x (size % 8)) bit ∙ bit_at-pow_same (size % 8) in
          ap (λ (x : ℕ). bit_at x (size % 8)) (get_or-set_same padded (size / 8) (bit_or byte one) 0 within)
          ∙ omega (arith, bit_at_or byte one (size % 8), set_there, bit_at-lt byte (size % 8));
    }
