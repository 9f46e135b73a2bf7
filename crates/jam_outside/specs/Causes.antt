-- What is known of a vault and a sink, and what a call leaves of it.
use Rattle.std.specs.Prelude.{◌≡◌, ℕ, ◌+◌, ◌-◌, ◌^◌, min, Bool, true, false, List, ◌++◌, take, Option, option_map, Result, Ok, Err}
use Rattle.std.specs.FinMap as fin
use Rattle.jam_outside.specs.Files.{Files}
use Rattle.jam_outside.specs.declared.vault.OutsideError.{OutsideError}
use Rattle.jam_outside.specs.declared.vault.OutsideError.TheVariants as outside
use Rattle.jam_outside.specs.declared.whole.ReadRefusal.{ReadRefusal}
use Rattle.jam_outside.specs.declared.whole.ReadRefusal.TheVariants as refusal

-- its files, where they are told; the name and the place of the last read that failed; how many stores were made;
-- for each kind of call how often it failed, and the name of the last store that did
pub record VaultState : Type 0 where
  pub files : Option Files
  pub read_faults : ℕ
  pub failed : List ℕ
  pub failed_place : ℕ
  pub stores : ℕ
  pub store_faults : ℕ
  pub store_failed : List ℕ

-- a count one higher; at its type's end it stands still
abbrev pub counted : ℕ → ℕ
counted n = min (n + 1) (2 ^ 64 - 1)

-- a count was raised by one
abbrev pub Raised : ℕ → ℕ → Type 0
Raised old new = new ≡ counted old

-- a count of failures after one more call
abbrev pub counted_where : Bool → ℕ → ℕ
counted_where true n = counted n
counted_where false n = n

-- a vault at which a read of this name from this place failed
abbrev pub read_failed : VaultState → List ℕ → ℕ → VaultState
read_failed v name place = record v { read_faults = counted v.read_faults; failed = name; failed_place = place }

-- what a read leaves: but for a failure all is as it was
abbrev pub read_leaves : {X : Type 0} → Result X OutsideError → VaultState → List ℕ → ℕ → VaultState
read_leaves (Ok x) v name place = v
read_leaves (Err outside.Failed) v name place = read_failed v name place
read_leaves (Err outside.NoMemory) v name place = v

-- a vault at which a store was made
abbrev pub store_made : VaultState → VaultState
store_made v = record v { stores = counted v.stores }

-- one that gave this name these bytes
abbrev pub store_done : VaultState → List ℕ → List ℕ → VaultState
store_done v name bytes = record v { stores = counted v.stores; files = option_map (λ held. fin.insert held name bytes) v.files }

-- one under this name that failed
abbrev pub store_failed : VaultState → List ℕ → VaultState
store_failed v name = record v { stores = counted v.stores; store_faults = counted v.store_faults; store_failed = name }

-- what a store leaves: it is counted whatever it answers, and a refusal leaves the files
abbrev pub store_leaves : {X : Type 0} → Result X OutsideError → VaultState → List ℕ → List ℕ → VaultState
store_leaves (Ok x) v name bytes = store_done v name bytes
store_leaves (Err outside.Failed) v name bytes = store_failed v name
store_leaves (Err outside.NoMemory) v name bytes = store_made v

abbrev pub is_failed : {X : Type 0} → Result X OutsideError → Bool
is_failed (Ok x) = false
is_failed (Err outside.Failed) = true
is_failed (Err outside.NoMemory) = false

-- what a whole read leaves, where the place is that of the read that failed
abbrev pub whole_read_leaves : {X : Type 0} → Result X ReadRefusal → VaultState → List ℕ → ℕ → VaultState
whole_read_leaves (Ok x) v name place = v
whole_read_leaves (Err refusal.ReadFault) v name place = read_failed v name place
whole_read_leaves (Err refusal.TooLong) v name place = v
whole_read_leaves (Err refusal.NoMemory) v name place = v

-- what a whole read answers where a read of the vault was refused so
abbrev pub refusal_of : OutsideError → ReadRefusal
refusal_of outside.Failed = refusal.ReadFault
refusal_of outside.NoMemory = refusal.NoMemory

-- what a sink took, where it tells, and how often it failed
pub record SinkState : Type 0 where
  pub taken : Option (List ℕ)
  pub faults : ℕ

-- these bytes were added at the end, where that is told
abbrev pub Appends : Option (List ℕ) → Option (List ℕ) → List ℕ → Type 0
Appends old new bytes = new ≡ option_map (λ taken. taken ++ bytes) old

-- a prefix of them was
abbrev pub AppendsPrefix : Option (List ℕ) → Option (List ℕ) → List ℕ → Type 0
AppendsPrefix old new bytes = (n : ℕ) × Appends old new (take n bytes)
