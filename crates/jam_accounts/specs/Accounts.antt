-- The state of the services: their accounts and what these hold (Gray Paper 0.7.0, chapter 9). The shape of accounts and the
-- versions of states are this project's own.
use Rattle.std.specs.Prelude.{◌≡◌, ℕ, ◌<◌, ◌^◌, ◌==◌, ◌||◌, Bool, true, false, List, length, replicate, Option, Some, None, if◌then◌else◌}
use Rattle.std.specs.Option.{option_and_then}
use Rattle.std.specs.Ordering.{nat_cmp}
use Rattle.std.specs.declared.cmp.Ordering.{Ordering}
use Rattle.std.specs.Cmp.Lexicographic.{slice_cmp}
use Rattle.std.specs.FinMap as fin
use Rattle.blake2b_core.specs.Blake2b.{digest}
use Rattle.jam_codec.specs.Lists.{hash_and_number_cmp}
use Rattle.preimage_store.specs.History.{available}

-- strings of bytes: byte by byte, and a proper prefix first
abbrev pub bytes_cmp : List ℕ → List ℕ → Ordering
bytes_cmp = slice_cmp nat_cmp

-- what a service keeps: values by key
abbrev pub Storage : Type 0
Storage = fin.FinMap bytes_cmp (List ℕ)

-- preimages by digest
abbrev pub Preimages : Type 0
Preimages = fin.FinMap bytes_cmp (List ℕ)

-- histories of the preimages asked for, by hash and length
abbrev pub Lookups : Type 0
Lookups = fin.FinMap hash_and_number_cmp (List ℕ)

-- the account of a service
pub record Account : Type 0 where
  pub code_hash : List ℕ
  pub balance : ℕ
  pub min_accumulate : ℕ
  pub min_transfer : ℕ
  -- what the balance may be lower for
  pub gratis : ℕ
  -- the slot at which the service was made
  pub created : ℕ
  pub storage : Storage
  pub preimages : Preimages
  pub lookups : Lookups

-- an account that has nothing
abbrev pub blank_account : Account
blank_account = record {
  code_hash = replicate 32 0;
  balance = 0;
  min_accumulate = 0;
  min_transfer = 0;
  gratis = 0;
  created = 0;
  storage = fin.empty;
  preimages = fin.empty;
  lookups = fin.empty;
}

-- accounts by the service's number
abbrev pub Accounts : Type 0
Accounts = fin.FinMap nat_cmp Account

pub record State : Type 0 where
  pub version : ℕ
  pub slot : ℕ
  pub entropy : List ℕ
  pub accounts : Accounts

-- of each key and the value there
abbrev pub OfEachEntry : {K X : Type 0} {R : K → K → Ordering} → (K → X → Type 0) → fin.FinMap R X → Type 0
OfEachEntry {K} {X} P m = (key : K) (value : X) → fin.get m key ≡ Some value → P key value

-- each preimage stands under its digest
abbrev pub StandUnderDigests : Preimages → Type 0
StandUnderDigests = OfEachEntry (λ hash bytes. hash ≡ digest bytes)

-- the lengths that histories stand under are numbers of four bytes
abbrev pub HaveShortLengths : Lookups → Type 0
HaveShortLengths = OfEachEntry (λ key history. key.1 < 2 ^ 32)

-- the versions of states
abbrev pub is_version : ℕ → Bool
is_version version = (version == 1) || (version == 2)

-- in version 1 an account has neither gratis nor a slot at which it was made
abbrev pub IsOfVersion : ℕ → Account → Type 0
IsOfVersion version account = version ≡ 1 → (account.gratis ≡ 0) × (account.created ≡ 0)

abbrev pub AreOfVersion : ℕ → Accounts → Type 0
AreOfVersion version = OfEachEntry (λ id account. IsOfVersion version account)

-- the version is one of them, and the accounts are of it
pub record IsVersioned (state : State) : Type 0 where
  pub known : is_version state.version ≡ true
  pub accounts : AreOfVersion state.version state.accounts

-- there is a history, and it says that the preimage is available at a time
abbrev pub is_available : Option (List ℕ) → ℕ → Bool
is_available None at = false
is_available (Some history) at = available history at

-- the preimage of a hash, where its history is there and says that it is available at a slot
abbrev pub preimage_at : Account → List ℕ → ℕ → Option (List ℕ)
preimage_at account hash slot =
    option_and_then (λ bytes. if is_available (fin.get account.lookups (hash, length bytes)) slot then Some bytes else None) (fin.get account.preimages hash)
