-- The words of fixed-width arithmetic, on whole numbers (Gray Paper 0.7.0, appendix A; the names are this project's own).
use Rattle.std.specs.Prelude.{ℕ, ◌+◌, ◌-◌, ◌*◌, ◌/◌, ◌%◌, ◌^◌, Bool, ◌==◌, if◌then◌else◌, ℤ, pos, unsigned_abs, int_div, int_rem}
use Rattle.std.specs.Int.{w32, w64, cast_signed, int_div_euclid, int_rem_euclid}
use Rattle.byte_numbers.specs.Signs.{extended_bits}

-- the lowest 32 bits
abbrev pub low_32 : ℕ → ℕ
low_32 v = v % 2 ^ 32

-- the lowest 32 bits, sign-extended to 64 bits: the result of each operation of 32 bits
abbrev pub extended_32 : ℕ → ℕ
extended_32 v = extended_bits 32 (low_32 v)

-- a number of 64 bits with its sign
abbrev pub signed_64 : ℕ → ℤ
signed_64 v = cast_signed w64 v

-- the lowest 32 bits with their sign
abbrev pub signed_32 : ℕ → ℤ
signed_32 v = cast_signed w32 (low_32 v)

-- a signed number modulo 2 ^ 64
abbrev pub modulo_64 : ℤ → ℕ
modulo_64 z = unsigned_abs (int_rem_euclid z (pos (2 ^ 64)))

-- a - b modulo 2 ^ 64
abbrev pub difference : ℕ → ℕ → ℕ
difference a b = (a + (2 ^ 64 - b)) % 2 ^ 64

-- rounded down; by 0 it is the largest number of 64 bits
abbrev pub quotient : ℕ → ℕ → ℕ
quotient a b = if b == 0 then 2 ^ 64 - 1 else a / b

-- by 0 it is the dividend
abbrev pub remainder : ℕ → ℕ → ℕ
remainder a b = if b == 0 then a else a % b

-- of signed numbers, rounded toward zero; by 0 it is the largest number of 64 bits
abbrev pub signed_quotient : ℤ → ℤ → ℕ
signed_quotient x y = if unsigned_abs y == 0 then 2 ^ 64 - 1 else modulo_64 (int_div x y)

-- with the sign of the dividend; by 0 it is the dividend
abbrev pub signed_remainder : ℤ → ℤ → ℕ
signed_remainder x y = modulo_64 (if unsigned_abs y == 0 then x else int_rem x y)

-- the other bit at each of 64 places
abbrev pub inverted : ℕ → ℕ
inverted v = 2 ^ 64 - 1 - v

abbrev pub shifted_left : ℕ → ℕ → ℕ
shifted_left v k = v * 2 ^ k

abbrev pub shifted_right : ℕ → ℕ → ℕ
shifted_right v k = v / 2 ^ k

-- filled with the sign: rounded down
abbrev pub shifted_right_signed : ℤ → ℕ → ℕ
shifted_right_signed z k = modulo_64 (int_div_euclid z (pos (2 ^ k)))

-- a number of w bits turned right by k places: what falls out at the right comes in at the left
abbrev pub turned_right : ℕ → ℕ → ℕ → ℕ
turned_right w v k = v / 2 ^ k + v % 2 ^ k * 2 ^ (w - k)

-- and turned left: what falls out at the left comes in at the right
abbrev pub turned_left : ℕ → ℕ → ℕ → ℕ
turned_left w v k = v % 2 ^ (w - k) * 2 ^ k + v / 2 ^ (w - k)

-- the upper 64 of the 128 bits of a product: rounded down
abbrev pub upper_half : ℤ → ℕ
upper_half product = modulo_64 (int_div_euclid product (pos (2 ^ 64)))

-- 1 where a test passes
abbrev pub one_where : Bool → ℕ
one_where passes = if passes then 1 else 0
