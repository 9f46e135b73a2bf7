-- How numbers and bits are spelled in bytes (Gray Paper 0.7.0, appendix C).
use Rattle.std.specs.Prelude.{ℕ, zero, suc, ◌+◌, ◌-◌, ◌*◌, ◌/◌, ◌%◌, ◌^◌, Bool, ◌==◌, List, [], ◌∷◌, length, if◌then◌else◌, nat_lt}
use Rattle.byte_numbers.specs.Numbers.{little_endian}

-- how many bytes follow the first one of a natural: the least l with x < 2 ^ (7 (l + 1)), and 8 from 2 ^ 56 on
abbrev pub tail_length : ℕ → ℕ
tail_length x = if nat_lt x (2 ^ 7) then 0 else if nat_lt x (2 ^ 14) then 1 else if nat_lt x (2 ^ 21) then 2
    else if nat_lt x (2 ^ 28) then 3 else if nat_lt x (2 ^ 35) then 4 else if nat_lt x (2 ^ 42) then 5
    else if nat_lt x (2 ^ 49) then 6 else if nat_lt x (2 ^ 56) then 7 else 8

-- the least first byte that l bytes follow: l ones, and then zeros
abbrev pub prefix_of : ℕ → ℕ
prefix_of l = 2 ^ 8 - 2 ^ (8 - l)

-- a natural with l bytes after the first: the high part in the first byte, the low part after it
abbrev pub natural_with : ℕ → ℕ → List ℕ
natural_with l x = (prefix_of l + x / 2 ^ (8 * l)) ∷ little_endian l (x % 2 ^ (8 * l))

-- the spelling of a natural below 2 ^ 64
unfoldable pub natural : ℕ → List ℕ
natural x = natural_with (tail_length x) x

-- the number whose binary digits are these bits, the least significant first
abbrev pub binary_number : List Bool → ℕ
binary_number [] = 0
binary_number (b ∷ bs) = (if b then 1 else 0) + 2 * binary_number bs

-- the n lowest binary digits of a number, the least significant first
unfoldable pub binary_digits : ℕ → ℕ → List Bool
binary_digits zero x = []
binary_digits (suc n) x = (x % 2 == 1) ∷ binary_digits n (x / 2)

-- how many bytes hold n bits
abbrev pub bytes_for : ℕ → ℕ
bytes_for n = (n + 7) / 8

-- bits packed in bytes, the least significant first; the spare bits of the last byte are 0
abbrev pub packed : List Bool → List ℕ
packed bits = little_endian (bytes_for (length bits)) (binary_number bits)
