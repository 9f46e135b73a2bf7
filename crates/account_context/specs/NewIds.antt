-- The numbers that new services may have (Gray Paper 0.7.0, appendix B; which of them one is given is this project's own). They
-- are those from 2 ^ 8 on and below 2 ^ 32 - 2 ^ 8, taken as a ring: the first comes after the last.
use Rattle.std.specs.Prelude.{ℕ, ◌+◌, ◌-◌, ◌%◌, ◌^◌, ◌≤◌, ◌<◌, List, ◌++◌, take}
use Rattle.byte_numbers.specs.Numbers.{little_number}
use Rattle.jam_codec.specs.Spelling.{natural}
use Rattle.blake2b_core.specs.Blake2b.{digest}

-- how many numbers the ring has
abbrev pub ring_size : ℕ
ring_size = 2 ^ 32 - 2 ^ 9

pub record IsInRing (id : ℕ) : Type 0 where
  pub low : 2 ^ 8 ≤ id
  pub high : id < 2 ^ 32 - 2 ^ 8

-- the number that stands so many places after another
abbrev pub ring_place : ℕ → ℕ → ℕ
ring_place id places = 2 ^ 8 + (id - 2 ^ 8 + places) % ring_size

-- the candidate for the next new service, once one was made with this number
abbrev pub bump : ℕ → ℕ
bump id = ring_place id 42

-- the candidate that an invocation of a service begins with: by the first four bytes of a digest, the least significant first
abbrev pub first_candidate : ℕ → List ℕ → ℕ → ℕ
first_candidate service entropy slot = 2 ^ 8 + little_number (take 4 (digest (natural service ++ entropy ++ natural slot))) % ring_size
