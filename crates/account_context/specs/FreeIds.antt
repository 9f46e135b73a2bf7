-- The number that the next new service is given (this project's own): the first one from the candidate on, along the ring, that no
-- service has, neither at the start nor now.
use Rattle.std.specs.Prelude.{◌≡◌, ℕ, zero, suc, ◌+◌, ◌<◌, ◌^◌, Bool, true, false, not, ◌||◌, nat_lt, Option, Some, None, if◌then◌else◌}
use Rattle.std.specs.FinMap as fin
use Rattle.jam_accounts.specs.Accounts.{Accounts}
use Rattle.account_context.specs.NewIds.{ring_size, ring_place}
use Rattle.account_context.specs.Context.{Pair}

-- a service has this number, at the start or now
abbrev pub is_taken : Pair → ℕ → Bool
is_taken pair id = fin.contains_key pair.base id || fin.contains_key pair.now.accounts id

-- the accounts that there are only now
abbrev pub added_accounts : Pair → Accounts
added_accounts pair = fin.retain_keys pair.now.accounts (λ id. not (fin.contains_key pair.base id))

-- how many numbers are taken
abbrev pub taken_count : Pair → ℕ
taken_count pair = fin.len pair.base + fin.len (added_accounts pair)

-- fewer are taken than there may be services
abbrev pub max_services : ℕ
max_services = 2 ^ 24

-- the first number that is not taken, of so many along the ring, from so many places after the candidate on
unfoldable pub first_free : (ℕ → Bool) → ℕ → ℕ → ℕ → Option ℕ
first_free taken candidate zero places = None
first_free taken candidate (suc count) places =
    if taken (ring_place candidate places) then first_free taken candidate count (places + 1) else Some (ring_place candidate places)

-- the first of the whole ring; none where too many are taken
unfoldable pub free_id : Pair → Option ℕ
free_id pair = if nat_lt (taken_count pair) max_services then first_free (is_taken pair) pair.now.candidate ring_size 0 else None

-- the same in other words: the number stands somewhere in the ring, is not taken, and all before it are
pub record IsFirstFree (pair : Pair) (id : ℕ) : Type 0 where
  pub places : ℕ
  pub within : places < ring_size
  pub stands : ring_place pair.now.candidate places ≡ id
  pub free : is_taken pair id ≡ false
  pub earlier : (k : ℕ) → k < places → is_taken pair (ring_place pair.now.candidate k) ≡ true
