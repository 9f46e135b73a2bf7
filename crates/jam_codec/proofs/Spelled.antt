-- Spellings as the bytes of a machine's numbers, and byte by byte.
use Rattle.std.proofs.Common.{◌≡◌, ℕ, suc, ◌+◌, ◌*◌, ◌/◌, ◌%◌, ◌^◌, ◌<◌, ◌≤◌, Bool, true, false, List, [], ◌∷◌, ◌++◌, length, take, drop, refl, sym, ap, ◌∙◌, lit<, arith, inl, inr, add-one, length-drop, length-take, length-append, append_assoc, append-nil, if◌then◌else◌, ◌==◌, Result, Ok, Err, OnOk, take-append-drop}
use Rattle.std.specs.Result.{is_ok}
use Rattle.std.specs.Int.{bytes_low_first}
use Rattle.std.proofs.Math.Nat.{pow-succ', pow-le-pow_right}
use Rattle.std.proofs.lemmas.Bool.{cases_lt, eqb-true}
use Rattle.std.proofs.lemmas.Bool.Decides.{nat_tests}
use Rattle.std.proofs.lemmas.List.{take_all, drop_all, length-take-le, take-append-le}
use Rattle.byte_numbers.specs.Numbers.{little_endian}
use Rattle.jam_codec.specs.Spelling.{natural, natural_with, tail_length, prefix_of, binary_number, bytes_for, packed}
use Rattle.byte_numbers.specs.NumberLaws.{bytes-little_endian, take-little_endian, little_endian-first}
use Rattle.jam_codec.specs.BitLaws.{binary_number-below}

-- packed bits, a byte at a time
binary_number-append : (low high : List Bool) → binary_number (low ++ high) ≡ binary_number low + 2 ^ length low * binary_number high
binary_number-append [] high = omega arith
binary_number-append (b ∷ low) high = rw (pow-succ' 2 (length low), binary_number-append low high) (omega arith)

pub packed-none : (bits : List Bool) → length bits ≡ 0 → packed bits ≡ []
unfolding little_endian
packed-none [] e = refl
packed-none (b ∷ bits) e = absurd (omega arith)

packed-parts : (front rest : List Bool) → length front ≡ 8 → packed (front ++ rest) ≡ binary_number front ∷ packed rest
packed-parts front rest size =
    let count : bytes_for (length (front ++ rest)) ≡ suc (bytes_for (length rest)) = omega (arith, length-append front rest) in
    let byte : 2 ^ length front ≡ 256 = ap (λ (k : ℕ). 2 ^ k) size in
    let number : binary_number (front ++ rest) ≡ binary_number front + 256 * binary_number rest =
    binary_number-append front rest ∙ ap (λ (k : ℕ). binary_number front + k * binary_number rest) byte in
    rw (count, number) (little_endian-first (bytes_for (length rest)) (binary_number front) (binary_number rest) (omega (arith, binary_number-below front)))

packed-few : (bits : List Bool) → 0 < length bits → length bits < 8 → packed bits ≡ binary_number bits ∷ []
unfolding little_endian
packed-few bits some few =
    let count : bytes_for (length bits) ≡ 1 = omega arith in
    let grown : 2 ^ length bits ≤ 2 ^ 8 = pow-le-pow_right {n = 2} (lit< tt) {i = length bits} {j = 8} (omega arith) in
    let low : binary_number bits % 256 ≡ binary_number bits = omega (arith, binary_number-below bits) in
    rw (count, low) refl

pub packed-step : (bits : List Bool) (n : ℕ) → 0 < length bits → n ≤ length bits → n ≤ 8 → (n < 8 → n ≡ length bits) → packed bits ≡ binary_number (take n bits) ∷ packed (drop n bits)
packed-step bits n some within most all = elim (cases_lt n 8) [
  | inl few ↦
      let whole : n ≡ length bits = all few in
      rw (take_all n bits (omega arith), drop_all n bits (omega arith), packed-none [] refl) (packed-few bits some (omega arith))
  | inr full ↦
      ap packed (sym (take-append-drop n bits))
      ∙ packed-parts (take n bits) (drop n bits) (omega (arith, length-take-le n bits within))
]

-- a byte more of packed bits
pub pushed_step : (old out new : List ℕ) (all left front rest : List Bool) (n byte : ℕ) → new ≡ out ++ byte ∷ [] → byte ≡ binary_number front → front ≡ take n left → rest ≡ drop n left
    → 0 < length left → n ≤ length left → n ≤ 8 → (n < 8 → n ≡ length left) → out ++ packed left ≡ old ++ packed all → new ++ packed rest ≡ old ++ packed all
pushed_step old out new all left front rest n byte new_is byte_is front_is rest_is some within most few e =
    let step : packed left ≡ byte ∷ packed rest =
    packed-step left n some within most few
    ∙ ap (λ (k : ℕ). k ∷ packed (drop n left)) (ap binary_number (sym front_is) ∙ sym byte_is)
    ∙ ap (λ (bits : List Bool). byte ∷ packed bits) (sym rest_is) in
    ap (λ (bytes : List ℕ). bytes ++ packed rest) new_is
    ∙ append_assoc out (byte ∷ []) (packed rest)
    ∙ ap (λ (bytes : List ℕ). out ++ bytes) (sym step) ∙ e

pub kept_step : (old out new : List ℕ) (byte : ℕ) → new ≡ out ++ byte ∷ [] → take (length old) out ≡ old → take (length old) new ≡ old
kept_step old out new byte new_is kept =
    let long : length old ≤ length out = omega (arith, ap length kept, length-take (length old) out) in
    ap (take (length old)) new_is ∙ take-append-le (length old) out (byte ∷ []) long ∙ kept

-- bits after the first leave room for one in their byte
pub room_for_bit : (bits : List Bool) (n : ℕ) → 0 < n → length bits ≤ 8 → binary_number (drop n bits) < 128
room_for_bit bits n some most =
    let grown : 2 ^ length (drop n bits) ≤ 2 ^ 7 = pow-le-pow_right {n = 2} (lit< tt) {i = length (drop n bits)} {j = 7} (omega (arith, length-drop n bits)) in
    omega (arith, binary_number-below (drop n bits))

-- a natural in an array
tail_length-most : (x : ℕ) → tail_length x ≤ 8
tail_length-most x = grind (arith, nat_tests)

pub natural_in_array : (l x first : ℕ) (tail : List ℕ) → l ≡ tail_length x → first ≡ prefix_of l + x / 2 ^ (8 * l) → tail ≡ bytes_low_first 0 8 (x % 2 ^ (8 * l)) → take (l + 1) (first ∷ (tail ++ [])) ≡ natural x
unfolding natural
natural_in_array l x first tail size first_is tail_is =
    let most : l ≤ 8 = omega (arith, tail_length-most x) in
    let low : take l (tail ++ []) ≡ little_endian l (x % 2 ^ (8 * l)) =
    ap (take l) (append-nil tail ∙ tail_is ∙ bytes-little_endian 8 (x % 2 ^ (8 * l))) ∙ take-little_endian l 8 (x % 2 ^ (8 * l)) most in
    rw add-one (rw (low, first_is) (ap (λ (k : ℕ). natural_with k x) size))

-- what a call gave, where it gave a value
pub on_ok : {T E : Type 0} → (r : Result T E) (new pushed old spelled : List ℕ) → new ≡ (if is_ok r then pushed else old) → pushed ≡ spelled → OnOk r (new ≡ spelled)
on_ok (Ok x) new pushed old spelled e same = e ∙ same
on_ok (Err x) new pushed old spelled e same = tt

pub some_left : {A : Type 0} → (xs : List A) (empty : Bool) → empty ≡ (length xs == 0) → empty ≡ false → 0 < length xs
some_left [] empty e unset = absurd (cc (sym unset ∙ e))
some_left (x ∷ xs) empty e unset = omega arith

pub none_left : {A : Type 0} → (xs : List A) (empty : Bool) → empty ≡ (length xs == 0) → empty ≡ true → length xs ≡ 0
none_left xs empty e set = eqb-true (length xs) 0 (sym e ∙ set)
