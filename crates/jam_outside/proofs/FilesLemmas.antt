-- The files of a map of the program: look-ups and inserts.
use Rattle.std.proofs.Common.{◌≡◌, ℕ, List, [], ◌∷◌, Bool, true, false, cond, Some, Option, Vec, String, string_bytes, string_cmp, refl, ap, sym, ◌∙◌, map}
use Rattle.std.specs.Prelude.{bytes_eq, option_map}
use Rattle.std.specs.Ordering.{nat_cmp, is_eq, eq_by_cmp}
use Rattle.std.specs.Cmp.{eq_by_cmp_equiv}
use Rattle.std.specs.Cmp.Lexicographic.{slice_cmp, nat_list_cmp_total}
use Rattle.std.specs.Map.{lookup}
use Rattle.std.specs.BTreeMap.{BTreeMap, get_by_text, Updates, is_at}
use Rattle.std.specs.declared.alloc.Global.{Global}
use Rattle.std.specs.FinMap as fin
use Rattle.std.specs.FinMap.{nat_cmp-IsAntisymmetric, slice_cmp-IsAntisymmetric}
use Rattle.std.proofs.lemmas.Map.Text.{btree_map_updates_text, is_eq-slice_cmp}
use Rattle.jam_outside.specs.Files.{files_of, named_bytes}

abbrev Bytes : Type 0
Bytes = Vec ℕ Global

abbrev bytes_at : Option Bytes → Option (List ℕ)
bytes_at found = option_map (λ (v : Bytes). v.items) found

-- a scan of the plain entries finds what a scan of the program's does
find-plain : (name : List ℕ) (entries : List (String Global × Bytes)) → fin.find (slice_cmp nat_cmp) name (map named_bytes entries) ≡ bytes_at (lookup (is_at (λ (k : String Global). slice_cmp nat_cmp name (string_bytes k))) entries)
find-plain name [] = refl
find-plain name (e ∷ rest) =
    let later : fin.find (slice_cmp nat_cmp) name (map named_bytes rest) ≡ bytes_at (lookup (is_at (λ (k : String Global). slice_cmp nat_cmp name (string_bytes k))) rest) = find-plain name rest in
    elim (is_eq (slice_cmp nat_cmp name (string_bytes e.0))) as (λ b. cond b (Some e.1.items) (fin.find (slice_cmp nat_cmp) name (map named_bytes rest)) ≡ bytes_at (cond b (Some e.1) (lookup (is_at (λ (k : String Global). slice_cmp nat_cmp name (string_bytes k))) rest))) [
      | true ↦ refl
      | false ↦ later
    ]

pub get-files_of : (m : BTreeMap (String Global) (Vec ℕ Global)) (name : List ℕ) → fin.get (files_of m) name ≡ option_map (λ (v : Vec ℕ Global). v.items) (get_by_text m name)
get-files_of m name = fin.get-from_entries nat_list_cmp_total (map named_bytes m.entries) name ∙ find-plain name m.entries

bytes_at-cond : (b : Bool) (v : Bytes) (o : Option Bytes) → bytes_at (cond b (Some v) o) ≡ cond b (Some v.items) (bytes_at o)
bytes_at-cond true v o = refl
bytes_at-cond false v o = refl

bytes_eq-cmp : (a b : List ℕ) → bytes_eq a b ≡ eq_by_cmp (slice_cmp nat_cmp) b a
bytes_eq-cmp a b = sym (is_eq-slice_cmp a b) ∙ (eq_by_cmp_equiv nat_list_cmp_total).symm a b

-- what an insert leaves at each name
get-after : (old new : BTreeMap (String Global) Bytes) (key : String Global) (v : Bytes) (name : List ℕ) → Updates string_cmp old new key (Some v) → fin.get (files_of new) name ≡ cond (eq_by_cmp (slice_cmp nat_cmp) name (string_bytes key)) (Some v.items) (fin.get (files_of old) name)
get-after old new key v name updates =
    get-files_of new name
    ∙ ap bytes_at (btree_map_updates_text (string_bytes key) old new (Some v) updates name)
    ∙ bytes_at-cond (bytes_eq (string_bytes key) name) v (get_by_text old name)
    ∙ ap (λ b. cond b (Some v.items) (bytes_at (get_by_text old name))) (bytes_eq-cmp (string_bytes key) name)
    ∙ ap (cond (eq_by_cmp (slice_cmp nat_cmp) name (string_bytes key)) (Some v.items)) (sym (get-files_of old name))

files_of-updates : (old new : BTreeMap (String Global) Bytes) (key : String Global) (v : Bytes) → Updates string_cmp old new key (Some v) → files_of new ≡ fin.insert (files_of old) (string_bytes key) v.items
files_of-updates old new key v updates =
    fin.same_map nat_list_cmp_total (slice_cmp-IsAntisymmetric nat_cmp-IsAntisymmetric) (files_of new) (fin.insert (files_of old) (string_bytes key) v.items) (λ name.
    get-after old new key v name updates ∙ sym (fin.get-insert nat_list_cmp_total (files_of old) (string_bytes key) v.items name))

-- the same with the name and the bytes as a caller gave them
pub files_of-insert : (old new : BTreeMap (String Global) (Vec ℕ Global)) (key : String Global) (v : Vec ℕ Global) (name bytes : List ℕ) → string_bytes key ≡ name → v.items ≡ bytes → Updates string_cmp old new key (Some v) → files_of new ≡ fin.insert (files_of old) name bytes
files_of-insert old new key v name bytes named holds updates =
    files_of-updates old new key v updates
    ∙ ap (λ n. fin.insert (files_of old) n v.items) named
    ∙ ap (fin.insert (files_of old) name) holds

pub ruleset files_rules = (get-files_of)
