-- Bytes, and the numbers that they spell with the least significant byte first: the encoding of a number in a fixed count of
-- bytes (Gray Paper 0.7.0, appendix C), and its inverse.
use Rattle.std.specs.Prelude.{ℕ, zero, suc, ◌+◌, ◌*◌, ◌/◌, ◌%◌, ◌<◌, List, [], ◌∷◌, take, drop, get_or}

-- a list whose members are bytes
abbrev pub AreBytes : List ℕ → Type 0
AreBytes bytes = (k : ℕ) → get_or bytes k 0 < 256

-- the number that bytes spell
abbrev pub little_number : List ℕ → ℕ
little_number [] = 0
little_number (b ∷ bs) = b + 256 * little_number bs

-- the n bytes that spell a number modulo 2 ^ (8 n)
unfoldable pub little_endian : ℕ → ℕ → List ℕ
little_endian zero x = []
little_endian (suc n) x = (x % 256) ∷ little_endian n (x / 256)

-- the number that the n bytes at a place spell; bytes past the end count as 0
abbrev pub number_at : List ℕ → ℕ → ℕ → ℕ
number_at bytes place n = little_number (take n (drop place bytes))

-- the numbers that n runs of `width` bytes spell, one after another
unfoldable pub numbers : ℕ → ℕ → List ℕ → List ℕ
numbers width zero bytes = []
numbers width (suc n) bytes = little_number (take width bytes) ∷ numbers width n (drop width bytes)
