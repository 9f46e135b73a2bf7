-- Numbers in bytes: eight of them as one, and their sign.
use Rattle.std.proofs.Common.{◌≡◌, ℕ, zero, suc, ◌+◌, ◌-◌, ◌*◌, ◌/◌, ◌%◌, ◌^◌, ◌<◌, ◌≤◌, true, false, List, length, drop, get_or, sym, ap, ◌∙◌, inl, inr, arith, le-ltb, lt-ltb, ℤ}
use Rattle.std.specs.Prelude.{nat_lt, if◌then◌else◌}
use Rattle.std.proofs.lemmas.Bool.{cases_lt}
use Rattle.std.proofs.lemmas.List.{take_all, length-drop}
use Rattle.std.proofs.Math.Nat.{div-div-eq-div-mul}
use Rattle.std.proofs.lemmas.Nat.{pow-add}
use Rattle.std.specs.Int.{w64}
use Rattle.std.proofs.lemmas.Int.{to_z-of_z}
use lib.Signed.{mag, mag_shr, shr_z}
use mir.Val.{of_z, to_z, SFits}
use Rattle.byte_numbers.specs.Numbers.{AreBytes, little_number, number_at}
use Rattle.byte_numbers.specs.NumberLaws.{number_at-step}
use Rattle.byte_numbers.specs.Signs.{extended_bytes}

pub eight : (xs : List ℕ) (i : ℕ) → get_or xs i 0 + get_or xs (i + 1) 0 * 256 + get_or xs (i + 2) 0 * 65536 + get_or xs (i + 3) 0 * 16777216 + get_or xs (i + 4) 0 * 4294967296 + get_or xs (i + 5) 0 * 1099511627776 + get_or xs (i + 6) 0 * 281474976710656 + get_or xs (i + 7) 0 * 72057594037927936 ≡ number_at xs i 8
eight xs i = omega (
  arith,
  number_at-step xs i (i + 1) 7 (omega arith),
  number_at-step xs (i + 1) (i + 2) 6 (omega arith),
  number_at-step xs (i + 2) (i + 3) 5 (omega arith),
  number_at-step xs (i + 3) (i + 4) 4 (omega arith),
  number_at-step xs (i + 4) (i + 5) 3 (omega arith),
  number_at-step xs (i + 5) (i + 6) 2 (omega arith),
  number_at-step xs (i + 6) (i + 7) 1 (omega arith),
  number_at-step xs (i + 7) (i + 8) 0 (omega arith),
)

-- eight bytes that reach the end, without their first: the byte that follows them is past the end
next-past : (xs : List ℕ) (i : ℕ) → AreBytes xs → length xs ≤ i + 8 → number_at xs i 8 / 2 ^ 8 ≡ number_at xs (i + 1) 8
next-past xs i bytes reach =
    let short : length (drop (i + 1) xs) ≤ 7 = omega (arith, length-drop (i + 1) xs) in
    let same : number_at xs (i + 1) 7 ≡ number_at xs (i + 1) 8 =
    ap little_number (take_all 7 (drop (i + 1) xs) short ∙ sym (take_all 8 (drop (i + 1) xs) (omega (arith, short)))) in
    omega (arith, number_at-step xs i (i + 1) 7 (omega arith), bytes i, same)

-- the same without the first n
pub later-past : (xs : List ℕ) (i n : ℕ) → AreBytes xs → length xs ≤ i + 8 → number_at xs i 8 / 2 ^ (8 * n) ≡ number_at xs (i + n) 8
later-past xs i zero bytes reach =
    let whole : number_at xs i 8 / 1 ≡ number_at xs i 8 = omega arith in
    whole ∙ ap (λ (k : ℕ). number_at xs k 8) (omega arith)
later-past xs i (suc n) bytes reach =
    ap (λ (k : ℕ). number_at xs i 8 / 2 ^ k) (omega arith)
    ∙ ap (λ (k : ℕ). number_at xs i 8 / k) (pow-add 2 8 (8 * n))
    ∙ sym (div-div-eq-div-mul (number_at xs i 8) (2 ^ 8) (2 ^ (8 * n)))
    ∙ ap (λ (k : ℕ). k / 2 ^ (8 * n)) (next-past xs i bytes reach)
    ∙ later-past xs (i + 1) n bytes (omega (arith, reach))
    ∙ ap (λ (k : ℕ). number_at xs k 8) (omega arith)

-- a shift that copies the sign, of a number with its low bits at the top
shifted : (low m width half span : ℕ) → (m < 2 ^ 63 → (low < half) × (m / width ≡ low)) → (2 ^ 63 ≤ m → (half ≤ low) × (2 ^ 64 - suc ((2 ^ 64 - suc m) / width) ≡ low + (2 ^ 64 - span))) → of_z w64 (shr_z (to_z w64 m) width) ≡ (if nat_lt low half then low else low + (2 ^ 64 - span))
shifted low m width half span small large = elim (cases_lt m (2 ^ 63)) [
  | inl below ↦
      let positive : nat_lt m (2 ^ 63) ≡ true = lt-ltb m (2 ^ 63) below in
      let short : nat_lt low half ≡ true = lt-ltb low half (small below).0 in
      rw (positive, short) (small below).1
  | inr above ↦
      let negative : nat_lt m (2 ^ 63) ≡ false = le-ltb m (2 ^ 63) above in
      let long : nat_lt low half ≡ false = le-ltb low half (large above).0 in
      rw (negative, long) (large above).1
]

sign : (size number : ℕ) → 0 < size → size ≤ 4 → number < 2 ^ 64 → of_z w64 (shr_z (to_z w64 (number * 2 ^ (64 - 8 * size) % 2 ^ 64)) (2 ^ (64 - 8 * size))) ≡ extended_bytes size (number % 2 ^ (8 * size))
sign zero number some few fits = absurd (omega arith)
sign (suc zero) number some few fits =
    shifted (number % 2 ^ 8) (number * 2 ^ 56 % 2 ^ 64) (2 ^ 56) (2 ^ 7) (2 ^ 8) (λ h. (omega arith, omega arith)) (λ h. (omega arith, omega arith))
sign (suc (suc zero)) number some few fits =
    shifted (number % 2 ^ 16) (number * 2 ^ 48 % 2 ^ 64) (2 ^ 48) (2 ^ 15) (2 ^ 16) (λ h. (omega arith, omega arith)) (λ h. (omega arith, omega arith))
sign (suc (suc (suc zero))) number some few fits =
    shifted (number % 2 ^ 24) (number * 2 ^ 40 % 2 ^ 64) (2 ^ 40) (2 ^ 23) (2 ^ 24) (λ h. (omega arith, omega arith)) (λ h. (omega arith, omega arith))
sign (suc (suc (suc (suc zero)))) number some few fits =
    shifted (number % 2 ^ 32) (number * 2 ^ 32 % 2 ^ 64) (2 ^ 32) (2 ^ 31) (2 ^ 32) (λ h. (omega arith, omega arith)) (λ h. (omega arith, omega arith))
sign (suc (suc (suc (suc (suc more))))) number some few fits = absurd (omega arith)

-- the same with the casts between
pub sign-cast : (size u number r : ℕ) (z : ℤ) → mag z < 2 ^ 63 → u ≡ size → 0 < size → size ≤ 4 → number < 2 ^ 64 → z ≡ to_z w64 (number * 2 ^ (64 - 8 * u) % 2 ^ 64) → r ≡ of_z w64 (to_z w64 (of_z w64 (shr_z (to_z w64 (of_z w64 z)) (2 ^ (64 - 8 * u))))) → r ≡ extended_bytes size (number % 2 ^ (8 * size))
sign-cast size u number r z fits same some few below top is =
    let width : ℕ = 2 ^ (64 - 8 * u) in
    let whole : SFits w64 z = record { sfits = fits } in
    let small : SFits w64 (shr_z z width) = record { sfits = omega (arith, mag_shr z width, fits) } in
    is
    ∙ ap (λ (y : ℤ). of_z w64 (to_z w64 (of_z w64 (shr_z y width)))) (to_z-of_z w64 z whole)
    ∙ ap (of_z w64) (to_z-of_z w64 (shr_z z width) small)
    ∙ ap (λ (y : ℤ). of_z w64 (shr_z y width)) top
    ∙ ap (λ (k : ℕ). of_z w64 (shr_z (to_z w64 (number * 2 ^ (64 - 8 * k) % 2 ^ 64)) (2 ^ (64 - 8 * k)))) same
    ∙ sign size number some few below
