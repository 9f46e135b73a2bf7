-- The spare bits of the last byte of packed bits.
use Rattle.std.proofs.Common.{◌≡◌, ℕ, ◌+◌, ◌-◌, ◌*◌, ◌/◌, ◌%◌, ◌^◌, ◌<◌, ◌≤◌, Bool, true, false, List, [], ◌∷◌, ◌++◌, length, take, drop, slice_get, Some, sym, ap, ◌∙◌, arith, inl, inr, ◌↔◌, nat_lt, IsTrue}
use Rattle.std.proofs.Math.Nat.{mul-le-mul_left, div-eq_of_lt}
use Rattle.std.proofs.lemmas.List.{length-take-le, drop_more, drop_all, take-append-drop}
use Rattle.std.proofs.lemmas.Option.{slice_get_within, get_or_from_slice_get}
use Rattle.std.proofs.lemmas.Nat.{pow-add, pow_pos, le-div}
use Rattle.std.specs.Bool.{OnFalse}
use Rattle.std.proofs.lemmas.Bool.{cases_lt, lt-ltb, ltb-true, OnFalse_from}
use Rattle.byte_numbers.specs.Numbers.{little_number, AreBytes}
use Rattle.jam_codec.specs.Spelling.{binary_digits, bytes_for, packed}
use Rattle.byte_numbers.specs.NumberLaws.{AreBytes-take, little_number-append, little_number-below}
use Rattle.jam_codec.specs.BitLaws.{packed-found}

-- whether the last byte has a spare bit that is set
record Last (bytes : List ℕ) (n last : ℕ) : Type 0 where
  low : ℕ
  place : ℕ
  number : little_number bytes ≡ low + 2 ^ place * last
  below : low < 2 ^ place
  bits : 0 < n % 8 → n ≡ place + n % 8

last_byte : (bytes : List ℕ) (n last : ℕ) → AreBytes bytes → length bytes ≡ bytes_for n → slice_get bytes (length bytes - 1) ≡ Some last → Last bytes n last
last_byte bytes n last b size found =
    let here : length bytes - 1 < length bytes = slice_get_within bytes (length bytes - 1) last found in
    let front : length (take (length bytes - 1) bytes) ≡ length bytes - 1 = length-take-le (length bytes - 1) bytes (omega arith) in
    let end : drop (length bytes - 1) bytes ≡ last ∷ [] =
    drop_more bytes (length bytes - 1) last here
    ∙ ap (λ (x : ℕ). x ∷ drop (length bytes - 1 + 1) bytes) (get_or_from_slice_get bytes (length bytes - 1) last last found)
    ∙ ap (λ (t : List ℕ). last ∷ t) (drop_all (length bytes - 1 + 1) bytes (omega arith)) in
    let split : take (length bytes - 1) bytes ++ last ∷ [] ≡ bytes = ap (λ (t : List ℕ). take (length bytes - 1) bytes ++ t) (sym end) ∙ take-append-drop (length bytes - 1) bytes in
    record {
      low = little_number (take (length bytes - 1) bytes);
      place = 8 * (length bytes - 1);
      number =
          ap little_number (sym split) ∙ little_number-append (take (length bytes - 1) bytes) (last ∷ [])
          ∙ rw front (omega arith);
      below = rw front at (little_number-below (take (length bytes - 1) bytes) (AreBytes-take (length bytes - 1) bytes b));
      bits = λ some. omega arith;
    }

pub no_spare_bits : (bytes : List ℕ) (n : ℕ) → AreBytes bytes → length bytes ≡ bytes_for n → n % 8 ≡ 0 → little_number bytes < 2 ^ n
no_spare_bits bytes n b size whole =
    let all : 8 * length bytes ≡ n = omega arith in
    rw all at (little_number-below bytes b)

pub spare_bits : (bytes : List ℕ) (n last : ℕ) → AreBytes bytes → length bytes ≡ bytes_for n → slice_get bytes (length bytes - 1) ≡ Some last → 0 < n % 8 → (2 ^ n ≤ little_number bytes) ↔ (0 < last / 2 ^ (n % 8))
spare_bits bytes n last b size found some =
    let p : Last bytes n last = last_byte bytes n last b size found in
    let power : 2 ^ n ≡ 2 ^ p.place * 2 ^ (n % 8) = ap (λ (k : ℕ). 2 ^ k) (p.bits some) ∙ pow-add 2 p.place (n % 8) in (
      λ h. elim (cases_lt last (2 ^ (n % 8))) [
        | inl small ↦
            let grown : 2 ^ p.place * (last + 1) ≤ 2 ^ p.place * 2 ^ (n % 8) = mul-le-mul_left (2 ^ p.place) (omega arith) in
            absurd (omega (arith, p.number, p.below))
        | inr large ↦ omega (arith, le-div 1 last (2 ^ (n % 8)) (pow_pos (n % 8)) (omega arith))
      ],
      λ h. elim (cases_lt last (2 ^ (n % 8))) [
        | inl small ↦ absurd (omega (arith, div-eq_of_lt small))
        | inr large ↦
            let grown : 2 ^ p.place * 2 ^ (n % 8) ≤ 2 ^ p.place * last = mul-le-mul_left (2 ^ p.place) large in
            omega (arith, p.number)
      ],
    )

-- what `has_spare_bit` says of its answer
pub record Spare (bytes : List ℕ) (n : ℕ) (b : Bool) : Type 0 where
  pub spare : IsTrue b ↔ (2 ^ n ≤ little_number bytes)
  pub clean : OnFalse b (bytes ≡ packed (binary_digits n (little_number bytes)))

Spare-test : (bytes : List ℕ) (n : ℕ) (b : Bool) → AreBytes bytes → length bytes ≡ bytes_for n → (IsTrue b ↔ (2 ^ n ≤ little_number bytes)) → Spare bytes n b
Spare-test bytes n b are size test =
    let below : b ≡ false → little_number bytes < 2 ^ n = λ e. elim (cases_lt (little_number bytes) (2 ^ n)) [
      | inl less ↦ less
      | inr more ↦ let spare : b ≡ true = test.1 more in absurd (cc (sym e ∙ spare))
    ] in
    record {
      spare = test;
      clean = OnFalse_from b (bytes ≡ packed (binary_digits n (little_number bytes))) (λ (e : b ≡ false). packed-found bytes n are size (below e));
    }

pub Spare-last : (bytes : List ℕ) (n last : ℕ) → AreBytes bytes → length bytes ≡ bytes_for n → slice_get bytes (length bytes - 1) ≡ Some last → 0 < n % 8 → Spare bytes n (nat_lt 0 (last / 2 ^ (n % 8)))
Spare-last bytes n last are size found some =
    let same : (2 ^ n ≤ little_number bytes) ↔ (0 < last / 2 ^ (n % 8)) = spare_bits bytes n last are size found some in
    Spare-test bytes n (nat_lt 0 (last / 2 ^ (n % 8))) are size
    (λ t. same.1 (ltb-true 0 (last / 2 ^ (n % 8)) t), λ h. lt-ltb 0 (last / 2 ^ (n % 8)) (same.0 h))

pub Spare-whole : (bytes : List ℕ) (n : ℕ) (b : Bool) → AreBytes bytes → length bytes ≡ bytes_for n → n % 8 ≡ 0 → b ≡ false → Spare bytes n b
Spare-whole bytes n b are size whole e =
    let below : little_number bytes < 2 ^ n = no_spare_bits bytes n are size whole in
    Spare-test bytes n b are size (λ t. absurd (cc (sym e ∙ t)), λ h. absurd (omega arith))
