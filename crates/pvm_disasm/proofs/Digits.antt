-- Numbers and bytes, as digits spell them.
use Rattle.std.proofs.Common.{◌≡◌, ◌≢◌, ◌<◌, ◌≤◌, ℕ, zero, suc, ◌+◌, ◌*◌, ◌/◌, ◌%◌, ◌^◌, min, true, false, ◌&&◌, ◌==◌, nat_lt, nat_le, List, [], ◌∷◌, ◌++◌, length, get_or, Some, None, decimal, refl, sym, ap, ◌∙◌, arith, length-append}
use Rattle.std.specs.List.{list_all}
use Rattle.std.proofs.lemmas.Bool.{and_parts, and_from, and_right, cond-true, cond-false, lt-ltb, le-leb, ne_eqb, eq-eqb, both_ways}
use Rattle.std.proofs.lemmas.Fmt.{decimal_by_steps}
use Rattle.byte_numbers.specs.Numbers.{AreBytes}
use Rattle.byte_numbers.specs.NumberLaws.{AreBytes-tail}
use Rattle.hex.specs.Hex.{encode_with, encode_lower, lower_digits}
use Rattle.pvm_asm.specs.Numbers.{digit, is_digit, followed_by, spelled, unsigned, with_sign, numeral, paired, hex_bytes}
use Rattle.pvm_asm.specs.declared.numeral.Numeral.{Numeral}
use Rattle.pvm_disasm.proofs.Lists.{all-append}

-- a number without a sign
abbrev pub plain : ℕ → Numeral
plain n = record { negative = false; size = n }

-- ---- Decimal numbers

-- digits that spell a number
pub record IsDecimal (n : ℕ) (ds : List ℕ) : Type 0 where
  pub digits : list_all (is_digit 10) ds ≡ true
  pub value : followed_by 10 0 ds ≡ n
  pub some : 0 < length ds

digit-glyph : (n : ℕ) → n < 10 → digit (48 + n) ≡ n
digit-glyph n h =
    let low : nat_le 48 (48 + n) ≡ true = le-leb 48 (48 + n) (omega arith) in
    let high : nat_le (48 + n) 57 ≡ true = le-leb (48 + n) 57 (omega arith) in
    rw (low, high) (omega arith)

is-glyph : (n : ℕ) → n < 10 → is_digit 10 (48 + n) ≡ true
is-glyph n h = ap (λ d. nat_lt d 10) (digit-glyph n h) ∙ lt-ltb n 10 h

followed-append : (m d : ℕ) (ds : List ℕ) → followed_by 10 m (ds ++ (d ∷ [])) ≡ followed_by 10 m ds * 10 + digit d
followed-append m d [] = refl
followed-append m d (e ∷ ds) = followed-append (m * 10 + digit e) d ds

one-digit : (n : ℕ) → n < 10 → IsDecimal n ((48 + n) ∷ [])
one-digit n h = record {
  digits = and_from (is_digit 10 (48 + n)) true (is-glyph n h) refl;
  value = omega (arith, digit-glyph n h);
  some = omega arith;
}

more-digits : (n : ℕ) (ds : List ℕ) → 10 ≤ n → IsDecimal (n / 10) ds → IsDecimal n (ds ++ ((48 + n % 10) ∷ []))
more-digits n ds h d =
    let low : n % 10 < 10 = omega arith in
    let last : digit (48 + n % 10) ≡ n % 10 = digit-glyph (n % 10) low in
    record {
      digits = all-append (is_digit 10) ds ((48 + n % 10) ∷ []) d.digits (and_from (is_digit 10 (48 + n % 10)) true (is-glyph (n % 10) low) refl);
      value = followed-append 0 (48 + n % 10) ds ∙ omega (arith, d.value, last);
      some = omega (arith, length-append ds ((48 + n % 10) ∷ []));
    }

pub decimal-is : (n : ℕ) → n < 2 ^ 64 → IsDecimal n (decimal n)
decimal-is n h = decimal_by_steps IsDecimal one-digit more-digits n h

-- a byte that is no digit stands nowhere among digits
not-among : (m k : ℕ) (ds : List ℕ) → list_all (is_digit 10) ds ≡ true → is_digit 10 m ≡ false → m ≢ 0 → (get_or ds k 0 == m) ≡ false
not-among m k [] h other some = ne_eqb 0 m (λ e. some (sym e))
not-among m zero (d ∷ ds) h other some =
    let parts = and_parts (is_digit 10 d) (list_all (is_digit 10) ds) h in
    ne_eqb d m (λ e. both_ways (is_digit 10 m) other (sym (ap (is_digit 10) e) ∙ parts.0))
not-among m (suc k) (d ∷ ds) h other some =
    let parts = and_parts (is_digit 10 d) (list_all (is_digit 10) ds) h in
    not-among m k ds parts.1 other some

spelled-is : (n : ℕ) (ds : List ℕ) → n < 2 ^ 64 → IsDecimal n ds → spelled 10 ds ≡ Some n
spelled-is n ds h d =
    let small : min n (2 ^ 64) ≡ n = omega arith in
    cond-true (nat_lt 0 (length ds) && list_all (is_digit 10) ds) (Some (min (followed_by 10 0 ds) (2 ^ 64))) None (and_from (nat_lt 0 (length ds)) (list_all (is_digit 10) ds) (lt-ltb 0 (length ds) d.some) d.digits)
    ∙ ap Some (ap (λ k. min k (2 ^ 64)) d.value ∙ small)

pub numeral-is : (n : ℕ) (ds : List ℕ) → n < 2 ^ 64 → IsDecimal n ds → numeral ds ≡ Some (plain n)
numeral-is n ds h d =
    let minus : (get_or ds 0 0 == 45) ≡ false = not-among 45 0 ds d.digits refl (λ e. absurd (omega (arith, e))) in
    let mark : (get_or ds 1 0 == 120) ≡ false = not-among 120 1 ds d.digits refl (λ e. absurd (omega (arith, e))) in
    let decimals : unsigned ds ≡ Some n =
    cond-false (get_or ds 0 0 == 48 && get_or ds 1 0 == 120) _ (spelled 10 ds) (and_right (get_or ds 0 0 == 48) (get_or ds 1 0 == 120) mark) ∙ spelled-is n ds h d in
    cond-false (get_or ds 0 0 == 45) _ (with_sign false (unsigned ds)) minus ∙ ap (with_sign false) decimals

pub numeral-decimal : (n : ℕ) → n < 2 ^ 64 → numeral (decimal n) ≡ Some (plain n)
numeral-decimal n h = numeral-is n (decimal n) h (decimal-is n h)

-- ---- Bytes in hexadecimal

-- the digit of a number below 16
abbrev glyph : ℕ → ℕ
glyph d = get_or lower_digits d 0

digit-lower : (d : ℕ) → d < 16 → digit (glyph d) ≡ d
digit-lower zero h = refl
digit-lower (suc zero) h = refl
digit-lower (suc (suc zero)) h = refl
digit-lower (suc (suc (suc zero))) h = refl
digit-lower (suc (suc (suc (suc zero)))) h = refl
digit-lower (suc (suc (suc (suc (suc zero))))) h = refl
digit-lower (suc (suc (suc (suc (suc (suc zero)))))) h = refl
digit-lower (suc (suc (suc (suc (suc (suc (suc zero))))))) h = refl
digit-lower (suc (suc (suc (suc (suc (suc (suc (suc zero)))))))) h = refl
digit-lower (suc (suc (suc (suc (suc (suc (suc (suc (suc zero))))))))) h = refl
digit-lower (suc (suc (suc (suc (suc (suc (suc (suc (suc (suc zero)))))))))) h = refl
digit-lower (suc (suc (suc (suc (suc (suc (suc (suc (suc (suc (suc zero))))))))))) h = refl
digit-lower (suc (suc (suc (suc (suc (suc (suc (suc (suc (suc (suc (suc zero)))))))))))) h = refl
digit-lower (suc (suc (suc (suc (suc (suc (suc (suc (suc (suc (suc (suc (suc zero))))))))))))) h = refl
digit-lower (suc (suc (suc (suc (suc (suc (suc (suc (suc (suc (suc (suc (suc (suc zero)))))))))))))) h = refl
digit-lower (suc (suc (suc (suc (suc (suc (suc (suc (suc (suc (suc (suc (suc (suc (suc zero))))))))))))))) h = refl
digit-lower (suc (suc (suc (suc (suc (suc (suc (suc (suc (suc (suc (suc (suc (suc (suc (suc d)))))))))))))))) h = absurd (omega arith)

is-lower : (d : ℕ) → d < 16 → is_digit 16 (glyph d) ≡ true
is-lower d h = ap (λ k. nat_lt k 16) (digit-lower d h) ∙ lt-ltb d 16 h

-- digits that spell bytes
pub record IsHex (bytes ds : List ℕ) : Type 0 where
  pub digits : list_all (is_digit 16) ds ≡ true
  pub value : paired ds ≡ bytes
  pub size : length ds ≡ 2 * length bytes

pub hex-is : (bytes : List ℕ) → AreBytes bytes → IsHex bytes (encode_lower bytes)
unfolding encode_with
hex-is [] are = record { digits = refl; value = refl; size = refl }
hex-is (b ∷ bytes) are =
    let more : IsHex bytes (encode_lower bytes) = hex-is bytes (AreBytes-tail b bytes are) in
    let small : b < 256 = are 0 in
    let high : b / 16 < 16 = omega arith in
    let low : b % 16 < 16 = omega arith in
    let first : digit (glyph (b / 16)) ≡ b / 16 = digit-lower (b / 16) high in
    let second : digit (glyph (b % 16)) ≡ b % 16 = digit-lower (b % 16) low in
    let byte : 16 * digit (glyph (b / 16)) + digit (glyph (b % 16)) ≡ b = omega arith in
    record {
      digits = and_from _ _ (is-lower (b / 16) high) (and_from _ _ (is-lower (b % 16) low) more.digits);
      value = ap (λ c. c ∷ paired (encode_lower bytes)) byte ∙ ap (λ cs. b ∷ cs) more.value;
      size = omega (arith, more.size);
    }

pub hex_bytes-is : (bytes ds : List ℕ) → 0 < length bytes → IsHex bytes ds → hex_bytes ds ≡ Some bytes
hex_bytes-is bytes ds some h =
    let long : nat_lt 0 (length ds) ≡ true = lt-ltb 0 (length ds) (omega (arith, h.size)) in
    let even : (length ds % 2 == 0) ≡ true = eq-eqb (length ds % 2) 0 (omega (arith, h.size)) in
    cond-true (nat_lt 0 (length ds) && length ds % 2 == 0 && list_all (is_digit 16) ds) (Some (paired ds)) None
    (and_from (nat_lt 0 (length ds) && length ds % 2 == 0) (list_all (is_digit 16) ds) (and_from (nat_lt 0 (length ds)) (length ds % 2 == 0) long even) h.digits)
    ∙ ap Some h.value
