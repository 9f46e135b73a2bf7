-- Bits and the numbers whose binary digits they are.
use Rattle.std.proofs.Common.{◌≡◌, ℕ, zero, suc, ◌+◌, ◌-◌, ◌*◌, ◌/◌, ◌%◌, ◌^◌, ◌<◌, ◌≤◌, ◌==◌, Bool, true, false, List, [], ◌∷◌, ◌++◌, length, take, drop, get_or, refl, sym, ap, ◌∙◌, lit<, arith, inl, inr, length-append, if◌then◌else◌}
use Rattle.std.proofs.Math.Nat.{pow-le-pow_right, pow-succ', zero-div, div-div-eq-div-mul, add-mul-div_left}
use Rattle.std.proofs.lemmas.List.{take_at, drop_at}
use Rattle.std.proofs.lemmas.Nat.{pow-add, pow_pos, shr-shr}
use Rattle.std.proofs.lemmas.Bool.{cases_lt, eq-eqb, ne_eqb}
use Rattle.std.proofs.lemmas.Bool.Decides.{nat_tests}
use Rattle.byte_numbers.specs.Numbers.{little_number, AreBytes}
use Rattle.jam_codec.specs.Spelling.{binary_number, binary_digits, bytes_for, packed}
use Rattle.byte_numbers.specs.NumberLaws.{AreBytes-tail, little_number-little_endian, little_endian-little_number, length-little_endian}

pub length-binary_digits : (n x : ℕ) → length (binary_digits n x) ≡ n
unfolding binary_digits
length-binary_digits zero x = refl
length-binary_digits (suc n) x = ap suc (length-binary_digits n (x / 2))

pub binary_number-below : (bits : List Bool) → binary_number bits < 2 ^ length bits
binary_number-below [] = omega arith
binary_number-below (true ∷ bits) = omega (arith, pow-succ' 2 (length bits), binary_number-below bits)
binary_number-below (false ∷ bits) = omega (arith, pow-succ' 2 (length bits), binary_number-below bits)

-- bits and numbers, both ways
pub binary_digits-binary_number : (bits : List Bool) → binary_digits (length bits) (binary_number bits) ≡ bits
unfolding binary_digits
binary_digits-binary_number [] = refl
binary_digits-binary_number (true ∷ bits) =
    let low : ((1 + 2 * binary_number bits) % 2 == 1) ≡ true = eq-eqb ((1 + 2 * binary_number bits) % 2) 1 (omega arith) in
    let high : (1 + 2 * binary_number bits) / 2 ≡ binary_number bits = omega arith in
    rw (low, high, binary_digits-binary_number bits)
binary_digits-binary_number (false ∷ bits) =
    let low : ((0 + 2 * binary_number bits) % 2 == 1) ≡ false = ne_eqb ((0 + 2 * binary_number bits) % 2) 1 (λ e. omega arith) in
    let high : (0 + 2 * binary_number bits) / 2 ≡ binary_number bits = omega arith in
    rw (low, high, binary_digits-binary_number bits)

low_digit : (x : ℕ) → (if x % 2 == 1 then 1 else 0) ≡ x % 2
low_digit x = grind (arith, nat_tests)

pub binary_number-binary_digits : (n x : ℕ) → x < 2 ^ n → binary_number (binary_digits n x) ≡ x
unfolding binary_digits
binary_number-binary_digits zero x h = omega arith
binary_number-binary_digits (suc n) x h =
    let high : x / 2 < 2 ^ n = omega (arith, pow-succ' 2 n) in
    omega (arith, low_digit x, binary_number-binary_digits n (x / 2) high)

-- one digit of a number, and where it stands in the bytes
binary_digits-at : (n i x : ℕ) (d : Bool) → i < n → get_or (binary_digits n x) i d ≡ (x / 2 ^ i % 2 == 1)
unfolding binary_digits
binary_digits-at zero i x d h = absurd (omega arith)
binary_digits-at (suc n) zero x d h = let whole : x / 1 ≡ x = omega arith in rw whole refl
binary_digits-at (suc n) (suc i) x d h =
    let less : i < n = omega arith in
    let next : x / 2 / 2 ^ i ≡ x / 2 ^ suc i = div-div-eq-div-mul x 2 (2 ^ i) ∙ ap (λ (k : ℕ). x / k) (sym (pow-succ' 2 i)) in
    rw (binary_digits-at n i (x / 2) d less, next) refl

digit_in_byte : (first more i : ℕ) → i < 8 → (first + 256 * more) / 2 ^ i % 2 ≡ first / 2 ^ i % 2
digit_in_byte first more i h =
    let parts : i + suc (7 - i) ≡ 8 = omega arith in
    let power : 2 ^ 8 ≡ 2 ^ i * (2 * 2 ^ (7 - i)) = ap (λ (k : ℕ). 2 ^ k) (sym parts) ∙ pow-add 2 i (suc (7 - i)) ∙ ap (λ (k : ℕ). 2 ^ i * k) (pow-succ' 2 (7 - i)) in
    let above : 256 * more ≡ 2 ^ i * (2 * (2 ^ (7 - i) * more)) = ap (λ (k : ℕ). k * more) power ∙ omega arith in
    let cut : (first + 256 * more) / 2 ^ i ≡ first / 2 ^ i + 2 * (2 ^ (7 - i) * more) =
    ap (λ (k : ℕ). (first + k) / 2 ^ i) above ∙ add-mul-div_left first (2 * (2 ^ (7 - i) * more)) (pow_pos i) in
    omega arith

little_number-digit : (bytes : List ℕ) (i : ℕ) → AreBytes bytes → little_number bytes / 2 ^ i % 2 ≡ get_or bytes (i / 8) 0 / 2 ^ (i % 8) % 2
little_number-digit [] i b = rw (zero-div (2 ^ i), zero-div (2 ^ (i % 8))) refl
little_number-digit (first ∷ bytes) i b = elim (cases_lt i 8) [
  | inl here ↦
      let byte : i / 8 ≡ 0 = omega arith in
      let bit : i % 8 ≡ i = omega arith in
      rw (byte, bit) (digit_in_byte first (little_number bytes) i here)
  | inr past ↦
      let byte : i / 8 ≡ suc ((i - 8) / 8) = omega arith in
      let bit : i % 8 ≡ (i - 8) % 8 = omega arith in
      let parts : 8 + (i - 8) ≡ i = omega arith in
      let above : (first + 256 * little_number bytes) / 2 ^ 8 ≡ little_number bytes = omega (arith, b 0) in
      let next : (first + 256 * little_number bytes) / 2 ^ i ≡ little_number bytes / 2 ^ (i - 8) =
      ap (λ (k : ℕ). (first + 256 * little_number bytes) / 2 ^ k) (sym parts)
      ∙ sym (shr-shr (first + 256 * little_number bytes) 8 (i - 8)) ∙ ap (λ (k : ℕ). k / 2 ^ (i - 8)) above in
      rw (next, byte, bit) (little_number-digit bytes (i - 8) (AreBytes-tail first bytes b))
]

pub binary_digits-of_bytes : (bytes : List ℕ) (n i : ℕ) (d : Bool) → AreBytes bytes → n ≤ 8 * length bytes → i < n → get_or (binary_digits n (little_number bytes)) i d ≡ (get_or bytes (i / 8) 0 / 2 ^ (i % 8) % 2 == 1)
binary_digits-of_bytes bytes n i d b long h = rw (binary_digits-at n i (little_number bytes) d h, little_number-digit bytes i b) refl

-- n bits packed, and read from their bytes again
pub bytes_for-bits : (n : ℕ) → n ≤ 8 * bytes_for n
bytes_for-bits n = omega arith

pub binary_number-fits : (bits : List Bool) → binary_number bits < 2 ^ (8 * bytes_for (length bits))
binary_number-fits bits =
    let grown : 2 ^ length bits ≤ 2 ^ (8 * bytes_for (length bits)) = pow-le-pow_right (lit< tt) (bytes_for-bits (length bits)) in
    omega (arith, binary_number-below bits)

-- what stands where bits are packed
pub record Front (bits : List Bool) (n : ℕ) (tail bytes : List ℕ) : Type 0 where
  pub long : bytes_for n ≤ length bytes
  pub number : little_number (take (bytes_for n) bytes) ≡ binary_number bits
  pub below : little_number (take (bytes_for n) bytes) < 2 ^ n
  pub left : drop (bytes_for n) bytes ≡ tail

pub length-packed : (bits : List Bool) → length (packed bits) ≡ bytes_for (length bits)
length-packed bits = length-little_endian (bytes_for (length bits)) (binary_number bits)

pub packed-Front : (bits : List Bool) (n : ℕ) (tail bytes : List ℕ) → length bits ≡ n → bytes ≡ packed bits ++ tail → Front bits n tail bytes
packed-Front bits n tail bytes size e =
    let count : length (packed bits) ≡ bytes_for n = length-packed bits ∙ ap (λ (k : ℕ). bytes_for k) size in
    let front : take (bytes_for n) bytes ≡ packed bits = ap (take (bytes_for n)) e ∙ take_at (packed bits) tail (bytes_for n) count in
    let number : little_number (take (bytes_for n) bytes) ≡ binary_number bits =
    ap little_number front ∙ little_number-little_endian (bytes_for (length bits)) (binary_number bits) (binary_number-fits bits) in
    let power : 2 ^ length bits ≡ 2 ^ n = ap (λ (k : ℕ). 2 ^ k) size in
    record {
      long = omega (arith, ap length e, length-append (packed bits) tail, count);
      number = number;
      below = omega (arith, number, power, binary_number-below bits);
      left = ap (drop (bytes_for n)) e ∙ drop_at (packed bits) tail (bytes_for n) count;
    }

-- bytes of n bits are their packed spelling
pub packed-found : (bytes : List ℕ) (n : ℕ) → AreBytes bytes → length bytes ≡ bytes_for n → little_number bytes < 2 ^ n → bytes ≡ packed (binary_digits n (little_number bytes))
packed-found bytes n b size below =
    let number : binary_number (binary_digits n (little_number bytes)) ≡ little_number bytes = binary_number-binary_digits n (little_number bytes) below in
    let count : bytes_for (length (binary_digits n (little_number bytes))) ≡ length bytes = ap (λ (k : ℕ). bytes_for k) (length-binary_digits n (little_number bytes)) ∙ sym size in
    rw (number, count) (sym (little_endian-little_number bytes b))
