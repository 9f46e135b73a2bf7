-- Sign extension.
use Rattle.std.proofs.Common.{◌≡◌, ℕ, ◌-◌, ◌^◌, ◌<◌, ◌≤◌, arith, lit<, inl, inr, refl}
use Rattle.std.proofs.Math.Nat.{pow-le-pow_right}
use Rattle.std.proofs.lemmas.Bool.{cases_lt, le-ltb, lt-ltb}
use Rattle.byte_numbers.specs.Signs.{extended_bits}

within : (bits : ℕ) → bits ≤ 64 → 2 ^ bits ≤ 2 ^ 64
within bits most = pow-le-pow_right {n = 2} (lit< tt) {i = bits} {j = 64} most

-- a number whose sign bit is 0 stays as it is
pub extended-positive : (bits x : ℕ) → x < 2 ^ (bits - 1) → extended_bits bits x ≡ x
extended-positive bits x h = rw (lt-ltb x (2 ^ (bits - 1)) h) refl

-- a number whose sign bit is 1 lacks as much to 2 ^ 64 as it lacked to 2 ^ bits
pub extended-negative : (bits x : ℕ) → bits ≤ 64 → 2 ^ (bits - 1) ≤ x → x < 2 ^ bits → 2 ^ 64 - extended_bits bits x ≡ 2 ^ bits - x
extended-negative bits x most h below = rw (le-ltb x (2 ^ (bits - 1)) h) (omega (arith, within bits most))

pub extended-fits : (bits x : ℕ) → bits ≤ 64 → x < 2 ^ bits → extended_bits bits x < 2 ^ 64
extended-fits bits x most below = elim (cases_lt x (2 ^ (bits - 1))) [
  | inl positive ↦ omega (arith, extended-positive bits x positive, within bits most)
  | inr negative ↦ rw (le-ltb x (2 ^ (bits - 1)) negative) (omega (arith, within bits most))
]
