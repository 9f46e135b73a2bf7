-- What host calls read and change (Gray Paper 0.7.0, appendix B: the implications 𝐋 of an invocation, of which it has two, x and y).
-- The shape of accounts and the choice of new numbers are this project's own.
use Rattle.std.specs.Prelude.{ℕ, ◌<◌, ◌^◌, nat_lt, List, [], ◌∷◌, ◌++◌, Option, Some, None, IsSome, if◌then◌else◌}
use Rattle.std.specs.Option.{option_map, option_and_then, unwrap_or}
use Rattle.std.specs.FinMap as fin
use Rattle.jam_accounts.specs.Accounts.{Account, Accounts, blank_account}
use Rattle.jam_accounts.specs.Footprint.{Footprint, footprint_of, octets_of}
use Rattle.account_context.specs.declared.transfer.Transfer.{Transfer}
use Rattle.account_context.specs.declared.provided.Provided.{Provided}
use Rattle.account_context.specs.declared.account_view.AccountView.{AccountView}
use Rattle.account_context.specs.NewIds.{IsInRing, bump, first_candidate}

pub record Context : Type 0 where
  pub accounts : Accounts
  -- the number from which on the next new service is given one
  pub candidate : ℕ
  -- in the order in which they were issued, as the preimages that are provided
  pub transfers : List Transfer
  pub yielded : Option (List ℕ)
  pub provided : List Provided

-- the context as it is, and as it was at the last checkpoint, over the accounts at the start; and the service that is run
pub record Pair : Type 0 where
  pub base : Accounts
  pub service : ℕ
  pub now : Context
  pub saved : Context

-- ---- the start

abbrev pub first_context : Accounts → ℕ → List ℕ → ℕ → Context
first_context base service entropy slot = record {
  accounts = base;
  candidate = first_candidate service entropy slot;
  transfers = [];
  yielded = None;
  provided = [];
}

-- the pair at the start of a service over these accounts, by an entropy and a slot
abbrev pub started : Accounts → ℕ → List ℕ → ℕ → Pair
started base service entropy slot = record {
  base = base;
  service = service;
  now = first_context base service entropy slot;
  saved = first_context base service entropy slot;
}

-- ---- what there is now

abbrev pub account_in : Pair → ℕ → Option Account
account_in pair id = fin.get pair.now.accounts id

abbrev pub view_of : Account → AccountView
view_of account = record {
  code_hash = account.code_hash;
  balance = account.balance;
  min_accumulate = account.min_accumulate;
  min_transfer = account.min_transfer;
  gratis = account.gratis;
  created = account.created;
  footprint = footprint_of account;
}

abbrev pub view_in : Pair → ℕ → Option AccountView
view_in pair id = option_map view_of (account_in pair id)

abbrev pub stored_value : Pair → ℕ → List ℕ → Option (List ℕ)
stored_value pair id key = option_and_then (λ account. fin.get account.storage key) (account_in pair id)

abbrev pub preimage_in : Pair → ℕ → List ℕ → Option (List ℕ)
preimage_in pair id hash = option_and_then (λ account. fin.get account.preimages hash) (account_in pair id)

abbrev pub history_in : Pair → ℕ → List ℕ → ℕ → Option (List ℕ)
history_in pair id hash length = option_and_then (λ account. fin.get account.lookups (hash, length)) (account_in pair id)

-- the account of the service itself
abbrev pub own_account : Pair → Account
own_account pair = unwrap_or (account_in pair pair.service) blank_account

-- ---- changes of the context now; what was saved stays

abbrev pub with_accounts : Pair → Accounts → Pair
with_accounts pair accounts = record pair { now = record pair.now { accounts = accounts } }

-- an account in place of the one that was found there; where none was found nothing changes
abbrev pub changed_account : (Account → Account) → Accounts → ℕ → Option Account → Accounts
changed_account change accounts id None = accounts
changed_account change accounts id (Some account) = fin.insert accounts id (change account)

abbrev pub change_own : (Account → Account) → Pair → Pair
change_own change pair = with_accounts pair (changed_account change pair.now.accounts pair.service (account_in pair pair.service))

abbrev pub with_value : List ℕ → List ℕ → Account → Account
with_value key value account = record account { storage = fin.insert account.storage key value }

abbrev pub without_value : List ℕ → Account → Account
without_value key account = record account { storage = fin.remove account.storage key }

-- a history in place of the one there, or none
abbrev pub with_history : List ℕ → ℕ → Option (List ℕ) → Account → Account
with_history hash length None account = record account { lookups = fin.remove account.lookups (hash, length) }
with_history hash length (Some history) account = record account { lookups = fin.insert account.lookups (hash, length) history }

abbrev pub without_preimage : List ℕ → Account → Account
without_preimage hash account = record account { preimages = fin.remove account.preimages hash }

abbrev pub put_value : Pair → List ℕ → List ℕ → Pair
put_value pair key value = change_own (with_value key value) pair

abbrev pub drop_value : Pair → List ℕ → Pair
drop_value pair key = change_own (without_value key) pair

abbrev pub set_history : Pair → List ℕ → ℕ → Option (List ℕ) → Pair
set_history pair hash length history = change_own (with_history hash length history) pair

abbrev pub drop_preimage : Pair → List ℕ → Pair
drop_preimage pair hash = change_own (without_preimage hash) pair

abbrev pub set_balance : Pair → ℕ → Pair
set_balance pair balance = change_own (λ account. record account { balance = balance }) pair

abbrev pub set_code : Pair → List ℕ → ℕ → ℕ → Pair
set_code pair code_hash min_accumulate min_transfer =
    change_own (λ account. record account { code_hash = code_hash; min_accumulate = min_accumulate; min_transfer = min_transfer }) pair

-- the candidate moves past the new account
abbrev pub add_account : Pair → ℕ → Account → Pair
add_account pair id account = record pair { now = record pair.now { accounts = fin.insert pair.now.accounts id account; candidate = bump id } }

abbrev pub remove_account : Pair → ℕ → Pair
remove_account pair id = with_accounts pair (fin.remove pair.now.accounts id)

abbrev pub push_transfer : Pair → Transfer → Pair
push_transfer pair transfer = record pair { now = record pair.now { transfers = pair.now.transfers ++ transfer ∷ [] } }

abbrev pub set_yield : Pair → List ℕ → Pair
set_yield pair hash = record pair { now = record pair.now { yielded = Some hash } }

abbrev pub push_provided : Pair → ℕ → List ℕ → Pair
push_provided pair service bytes = record pair { now = record pair.now { provided = pair.now.provided ++ record { service = service; bytes = bytes } ∷ [] } }

-- ---- checkpoints

abbrev pub checkpoint : Pair → Pair
checkpoint pair = record pair { saved = pair.now }

abbrev pub restore : Pair → Pair
restore pair = record pair { now = pair.saved }

-- ---- what holds of every pair that a scope has

-- the service has its account, and the candidate is a number that a new service may have
pub record HoldsService (service : ℕ) (context : Context) : Type 0 where
  pub own : IsSome (fin.get context.accounts service)
  pub candidate : IsInRing context.candidate

pub record IsLawful (pair : Pair) : Type 0 where
  pub base : IsSome (fin.get pair.base pair.service)
  pub now : HoldsService pair.service pair.now
  pub saved : HoldsService pair.service pair.saved

-- the octets of the service's own account are below the bound of every account
abbrev pub IsOwnWithinBound : Pair → Type 0
IsOwnWithinBound pair = octets_of (own_account pair) < 2 ^ 100

-- the footprint of an account whose octets are below the bound of every account
abbrev pub fitting_footprint : Account → Option Footprint
fitting_footprint account = if nat_lt (octets_of account) (2 ^ 100) then Some (footprint_of account) else None
