-- The bytes at the 2 ^ 32 addresses (Gray Paper 0.7.0, appendix A), as a list by address.
use Rattle.std.specs.Prelude.{◌≢◌, ℕ, ◌+◌, ◌*◌, ◌/◌, ◌<◌, ◌≤◌, ◌^◌, List, ◌++◌, length, take, drop, replicate, slice_index_or}

-- memory that was never written
unfoldable pub all_zero : List ℕ
all_zero = replicate (2 ^ 32) 0

-- the byte at an address
abbrev pub byte_of : List ℕ → ℕ → ℕ
byte_of memory address = slice_index_or memory address 0

-- bytes with others in the place of those from a place on
abbrev pub overwritten : List ℕ → ℕ → List ℕ → List ℕ
overwritten memory place new = take place memory ++ new ++ drop (place + length new) memory

-- the memory where the bytes of count pages, from the first on, are zero
abbrev pub zeroed : List ℕ → ℕ → ℕ → List ℕ
zeroed memory first count = overwritten memory (first * 4096) (replicate (count * 4096) 0)

-- some byte of a page is not zero; the bytes are given by their addresses
abbrev pub IsMarked : (ℕ → ℕ) → ℕ → Type 0
IsMarked byte page = (place : ℕ) × (place < 4096) × (byte (page * 4096 + place) ≢ 0)

-- so it is in each page that n bytes from a place on touch
abbrev pub AreMarked : (ℕ → ℕ) → ℕ → ℕ → Type 0
AreMarked byte place n = (page : ℕ) → place / 4096 ≤ page → page * 4096 < place + n → IsMarked byte page
