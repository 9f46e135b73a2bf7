-- What an account takes up, and the balance that it needs for that (Gray Paper 0.7.0, chapter 9; the deposits are this project's own).
use Rattle.std.specs.Prelude.{ℕ, ◌+◌, ◌-◌, ◌*◌, ◌≤◌, ◌<◌, ◌^◌, List, length, Option, Some, None, option_map, unwrap_or, nat_lt, if◌then◌else◌}
use Rattle.std.specs.declared.cmp.Ordering.{Ordering}
use Rattle.std.specs.List.{sum_by}
use Rattle.std.specs.FinMap as fin
use Rattle.jam_accounts.specs.Accounts.{Account, Storage, Lookups}

-- two for each history and one for each value
abbrev pub items_of : Account → ℕ
items_of account =
    sum_by (λ (entry : List ℕ × List ℕ). 1) (fin.entries account.storage)
    + sum_by (λ (entry : (List ℕ × ℕ) × List ℕ). 2) (fin.entries account.lookups)

-- of a value: 34, and the lengths of its key and of its own
abbrev pub value_octets : List ℕ × List ℕ → ℕ
value_octets entry = 34 + length entry.0 + length entry.1

-- of a history: 81, and the length that it stands under
abbrev pub history_octets : (List ℕ × ℕ) × List ℕ → ℕ
history_octets entry = 81 + entry.0.1

-- what stands at a key weighs, where anything does
abbrev pub weight_at : {K X : Type 0} {R : K → K → Ordering} → (K × X → ℕ) → fin.FinMap R X → K → ℕ
weight_at weight m key = unwrap_or (option_map (λ value. weight (key, value)) (fin.get m key)) 0

abbrev pub storage_octets : Storage → ℕ
storage_octets storage = sum_by value_octets (fin.entries storage)

abbrev pub lookups_octets : Lookups → ℕ
lookups_octets lookups = sum_by history_octets (fin.entries lookups)

abbrev pub octets_of : Account → ℕ
octets_of account = storage_octets account.storage + lookups_octets account.lookups

-- octets that are below the bound of every account
abbrev pub fitting : ℕ → Option ℕ
fitting octets = if nat_lt octets (2 ^ 100) then Some octets else None

pub record Footprint : Type 0 where
  pub items : ℕ
  pub octets : ℕ

abbrev pub footprint_of : Account → Footprint
footprint_of account = record { items = items_of account; octets = octets_of account }

-- the balance that an account with this footprint needs: nothing where the gratis covers its deposits (a difference of naturals ends at 0)
abbrev pub threshold_of : Footprint → ℕ → ℕ
threshold_of footprint gratis = 100 + 10 * footprint.items + footprint.octets - gratis

-- the bounds of every footprint
pub record IsBounded (footprint : Footprint) : Type 0 where
  pub items : footprint.items ≤ footprint.octets
  pub octets : footprint.octets < 2 ^ 100
