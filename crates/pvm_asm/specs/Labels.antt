-- The labels of a text and their places.
use Rattle.std.specs.Prelude.{ℕ, List, map, Vec, if◌then◌else◌, Option, is_some}
use Rattle.std.specs.BTreeMap.{BTreeMap}
use Rattle.std.specs.declared.alloc.Global.{Global}
use Rattle.std.specs.FinMap as fin
use Rattle.std.specs.Ordering.{nat_cmp}
use Rattle.std.specs.Cmp.Lexicographic.{slice_cmp}

-- the place of each label
abbrev pub Labels : Type 0
Labels = fin.FinMap (slice_cmp nat_cmp) ℕ

abbrev pub no_labels : Labels
no_labels = fin.empty

abbrev pub place_of_label : Labels → List ℕ → Option ℕ
place_of_label labels name = fin.get labels name

-- a label that stands twice has the place of its first line
abbrev pub with_label : Labels → List ℕ → ℕ → Labels
with_label labels name place = if is_some (place_of_label labels name) then labels else fin.insert labels name place

abbrev pub plain_label : Vec ℕ Global × ℕ → List ℕ × ℕ
plain_label entry = (entry.0.items, entry.1)

-- the places that a map of the program holds
abbrev pub places_of : BTreeMap (Vec ℕ Global) ℕ → Labels
places_of m = fin.from_entries (map plain_label m.entries)
