-- The service's own account: what is kept beside its maps, and the maps, each now and as it was saved.
use Rattle.std.specs.Prelude.{◌≡◌, ℕ, ◌<◌, ◌^◌, List, Option, Some, None}
use Rattle.jam_accounts.specs.Accounts.{Account, Storage, Preimages, Lookups}
use Rattle.jam_accounts.specs.Footprint.{footprint_of, octets_of}
use Rattle.account_context.specs.declared.account_view.AccountView.{AccountView}
use Rattle.account_overlay.specs.Layers.{Halves, with_value}

-- the account that is so without what it keeps, and keeps these
abbrev pub account_with : AccountView → Storage → Preimages → Lookups → Account
account_with view storage preimages lookups = record {
  code_hash = view.code_hash;
  balance = view.balance;
  min_accumulate = view.min_accumulate;
  min_transfer = view.min_transfer;
  gratis = view.gratis;
  created = view.created;
  storage = storage;
  preimages = preimages;
  lookups = lookups;
}

abbrev pub own_of : (now saved : AccountView) → Halves Storage → Halves Preimages → Halves Lookups → Halves Account
own_of now saved values preimages histories = record {
  now = account_with now values.now preimages.now histories.now;
  saved = account_with saved values.saved preimages.saved histories.saved;
}

-- what is kept as taken up is what the account takes up, and its octets are below the bound of every account
pub record IsCounted (view : AccountView) (account : Account) : Type 0 where
  pub footprint : view.footprint ≡ footprint_of account
  pub within : octets_of account < 2 ^ 100

pub record AreCounted (now saved : AccountView) (accounts : Halves Account) : Type 0 where
  pub counted_now : IsCounted now accounts.now
  pub counted_saved : IsCounted saved accounts.saved

-- a value under a key, or none
abbrev pub with_stored : List ℕ → Option (List ℕ) → Account → Account
with_stored key value account = record account { storage = with_value account.storage key value }

-- the account may keep the value, where there is one
abbrev pub IsRoomFor : List ℕ → Option (List ℕ) → Account → Type 0
IsRoomFor key None account = Unit {0}
IsRoomFor key (Some value) account = octets_of (with_stored key (Some value) account) < 2 ^ 100
