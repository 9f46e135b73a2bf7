-- Numbers whose highest bit is their sign, as numbers of 64 bits (Gray Paper 0.7.0, appendix A: the functions X).
use Rattle.std.specs.Prelude.{ℕ, ◌+◌, ◌-◌, ◌*◌, ◌^◌, nat_lt, if◌then◌else◌}

-- a number of so many bits, sign-extended to 64 bits; of no bits it is 0
abbrev pub extended_bits : ℕ → ℕ → ℕ
extended_bits bits x = if nat_lt x (2 ^ (bits - 1)) then x else x + (2 ^ 64 - 2 ^ bits)

-- the same of a number of n bytes
abbrev pub extended_bytes : ℕ → ℕ → ℕ
extended_bytes n x = extended_bits (8 * n) x
