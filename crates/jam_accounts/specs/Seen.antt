-- A map of the program, seen as a finite map of plain data.
use Rattle.std.specs.Prelude.{List, map}
use Rattle.std.specs.declared.cmp.Ordering.{Ordering}
use Rattle.std.specs.BTreeMap.{BTreeMap}
use Rattle.std.specs.FinMap as fin

-- entries, with what is seen of each key and of each value
abbrev pub seen_entries : {K V L X : Type 0} → (K → L) → (V → X) → List (K × V) → List (L × X)
seen_entries key value entries = map (λ e. (key e.0, value e.1)) entries

abbrev pub seen_map : {K V L X : Type 0} (R : L → L → Ordering) → (K → L) → (V → X) → BTreeMap K V → fin.FinMap R X
seen_map R key value tree = fin.from_entries (seen_entries key value tree.entries)
