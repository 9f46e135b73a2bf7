-- The files of a vault: the bytes under each name.
use Rattle.std.specs.Prelude.{◌≡◌, ℕ, ◌≤◌, List, [], length, take, drop, unwrap_or, Vec, String, string_bytes, map, ◌⊎◌}
use Rattle.std.specs.Ordering.{nat_cmp}
use Rattle.std.specs.Cmp.Lexicographic.{slice_cmp}
use Rattle.std.specs.FinMap as fin
use Rattle.std.specs.BTreeMap.{BTreeMap}
use Rattle.std.specs.declared.alloc.Global.{Global}

-- from names to bytes
abbrev pub Files : Type 0
Files = fin.FinMap (slice_cmp nat_cmp) (List ℕ)

-- a name that is not there stands for no bytes
abbrev pub content : Files → List ℕ → List ℕ
content files name = unwrap_or (fin.get files name) []

-- an entry of a map of the program: the bytes of a name, and those under it
abbrev pub named_bytes : String Global × Vec ℕ Global → List ℕ × List ℕ
named_bytes entry = (string_bytes entry.0, entry.1.items)

abbrev pub files_of : BTreeMap (String Global) (Vec ℕ Global) → Files
files_of m = fin.from_entries (map named_bytes m.entries)

-- a read gave n bytes of the file from the place on, and none only where none was asked for or none is left
pub record IsPiece (file : List ℕ) (place : ℕ) (buf : List ℕ) (n : ℕ) : Type 0 where
  pub bytes : take n buf ≡ take n (drop place file)
  pub none : n ≡ 0 → (length buf ≡ 0) ⊎ (length file ≤ place)
