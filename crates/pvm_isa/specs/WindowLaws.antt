-- The bytes of a code in the number of eight of them.
use Rattle.std.proofs.Common.{◌≡◌, ℕ, zero, suc, ◌-◌, ◌+◌, ◌*◌, ◌/◌, ◌%◌, ◌^◌, ◌<◌, ◌≤◌, List, arith, ap, sym, subst, ◌∙◌, inl, inr, lit<}
use Rattle.std.proofs.Math.Nat.{pow-le-pow_right, pow-suc, mod-lt}
use Rattle.std.proofs.lemmas.Bool.{cases_lt}
use Rattle.byte_numbers.specs.SignLaws.{extended-positive, extended-negative, extended-fits}
use Rattle.byte_numbers.specs.Signs.{extended_bits}
use Rattle.byte_numbers.specs.Numbers.{AreBytes, number_at}
use Rattle.byte_numbers.specs.NumberLaws.{number_at-step, number_at-few, number_at-later}
use Rattle.byte_numbers.specs.Signs.{extended_bytes}
use Rattle.pvm_isa.specs.Arguments.{IsWindow, code_byte, imm}

pub first-byte : (code : List ℕ) (place bytes : ℕ) → IsWindow code place bytes → bytes % 256 ≡ code_byte code place
first-byte code place bytes is = omega (arith, is.number, is.small place, number_at-step code place (place + 1) 7 (omega arith))

pub second-byte : (code : List ℕ) (place bytes : ℕ) → IsWindow code place bytes → bytes / 256 % 256 ≡ code_byte code (place + 1)
second-byte code place bytes is = omega (
  arith,
  is.number,
  is.small place,
  is.small (place + 1),
  number_at-step code place (place + 1) 7 (omega arith),
  number_at-step code (place + 1) (place + 2) 6 (omega arith),
)

pub third-byte : (code : List ℕ) (place bytes : ℕ) → IsWindow code place bytes → bytes / 65536 % 256 ≡ code_byte code (place + 2)
third-byte code place bytes is = omega (
  arith,
  is.number,
  is.small place,
  is.small (place + 1),
  is.small (place + 2),
  number_at-step code place (place + 1) 7 (omega arith),
  number_at-step code (place + 1) (place + 2) 6 (omega arith),
  number_at-step code (place + 2) (place + 3) 5 (omega arith),
)

-- an immediate from one of the eight bytes on
pub window-imm : (code : List ℕ) (place bytes from n : ℕ) → IsWindow code place bytes → n ≤ 4 → from + n ≤ 8 → extended_bytes n (bytes / 2 ^ (8 * from) % 2 ^ (8 * n)) ≡ imm code (place + from) n
window-imm code place bytes from n is few within =
    let rest : ℕ = 8 - from in
    let split : 8 ≡ from + rest = omega (arith, within) in
    ap (λ (x : ℕ). extended_bytes n (x / 2 ^ (8 * from) % 2 ^ (8 * n))) (is.number ∙ ap (number_at code place) split)
    ∙ ap (λ (x : ℕ). extended_bytes n (x % 2 ^ (8 * n))) (number_at-later code place from rest is.small)
    ∙ ap (extended_bytes n) (number_at-few rest code (place + from) n (omega (arith, within)) is.small)

-- ---- The lower half of an immediate

twice : (bits : ℕ) → 2 ^ bits ≤ 2 * 2 ^ (bits - 1)
twice zero = omega arith
twice (suc bits) =
    let less : suc bits - 1 ≡ bits = omega arith in
    let back : 2 ^ (suc bits - 1) ≡ 2 ^ bits = ap (λ (k : ℕ). 2 ^ k) less in
    omega (arith, pow-suc 2 bits, back)

-- a number of at most 32 bits with its sign is that of its lower half
pub half-extended : (bits x : ℕ) → bits ≤ 32 → x < 2 ^ bits → extended_bits 32 (extended_bits bits x % 2 ^ 32) ≡ extended_bits bits x
half-extended bits x few below =
    let wide : bits ≤ 64 = omega arith in
    let high : 2 ^ bits ≤ 2 ^ 32 = pow-le-pow_right {n = 2} (lit< tt) {i = bits} {j = 32} few in
    let low : 2 ^ (bits - 1) ≤ 2 ^ 31 = pow-le-pow_right {n = 2} (lit< tt) {i = bits - 1} {j = 31} (omega arith) in
    elim (cases_lt x (2 ^ (bits - 1))) [
      | inl positive ↦
          let same : extended_bits bits x ≡ x = extended-positive bits x positive in
          let small : x < 2 ^ 31 = omega arith in
          let half : extended_bits bits x % 2 ^ 32 ≡ x = omega (arith, same, small) in
          ap (extended_bits 32) half ∙ extended-positive 32 x small ∙ sym same
      | inr negative ↦
          let lacks : 2 ^ 64 - extended_bits bits x ≡ 2 ^ bits - x = extended-negative bits x wide negative below in
          let fits : extended_bits bits x < 2 ^ 64 = extended-fits bits x wide below in
          let most : 2 ^ bits - x ≤ 2 ^ 31 = omega (arith, twice bits) in
          let half : 2 ^ 31 ≤ extended_bits bits x % 2 ^ 32 = omega (arith, lacks, fits, most) in
          let under : extended_bits bits x % 2 ^ 32 < 2 ^ 32 = omega arith in
          omega (arith, lacks, fits, most, extended-negative 32 (extended_bits bits x % 2 ^ 32) (omega arith) half under, extended-fits 32 (extended_bits bits x % 2 ^ 32) (omega arith) under)
    ]

-- so it is with an immediate
pub half-imm : (code : List ℕ) (place n : ℕ) → AreBytes code → n ≤ 4 → extended_bytes 4 (imm code place n % 2 ^ 32) ≡ imm code place n
half-imm code place n small few =
    let one : 1 ≤ 2 ^ (8 * n) = pow-le-pow_right {n = 2} (lit< tt) {i = 0} {j = 8 * n} (omega arith) in
    let below : number_at code place n < 2 ^ (8 * n) = subst (λ (k : ℕ). k < 2 ^ (8 * n)) (number_at-few n code place n (omega arith) small) (mod-lt (number_at code place n) (omega (arith, one))) in
    half-extended (8 * n) (number_at code place n) (omega arith) below
