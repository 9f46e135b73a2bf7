-- Preimages that a batch delivers (Gray Paper 0.7.0, chapter 12; when one is stored is this project's own).
use Rattle.std.specs.Prelude.{◌≡◌, ℕ, ◌+◌, List, [], ◌∷◌, take, Option, Some, None}
use Rattle.std.specs.Option.{option_and_then}
use Rattle.std.specs.FinMap as fin
use Rattle.jam_accounts.specs.Accounts.{Account, Accounts}
use Rattle.jam_accounts.specs.Receipt.{received}
use Rattle.batch_file.specs.declared.delivery.Delivery.{Delivery}

-- accounts, and how many deliveries were stored in them so far
pub record Delivered : Type 0 where
  pub accounts : Accounts
  pub stored : ℕ

abbrev pub none_stored : Accounts → Delivered
none_stored accounts = record { accounts = accounts; stored = 0 }

abbrev pub with_account : Delivered → ℕ → Option Account → Delivered
with_account done service None = done
with_account done service (Some account) = record { accounts = fin.insert done.accounts service account; stored = done.stored + 1 }

-- after one delivery; it is passed over also where there is no account of its service
abbrev pub after_delivery : ℕ → Delivered → Delivery → Delivered
after_delivery slot done delivery = with_account done delivery.service (option_and_then (received slot delivery.bytes) (fin.get done.accounts delivery.service))

-- after all of them, in their order
unfoldable pub after_deliveries : ℕ → Delivered → List Delivery → Delivered
after_deliveries slot done [] = done
after_deliveries slot done (delivery ∷ deliveries) = after_deliveries slot (after_delivery slot done delivery) deliveries

-- the accounts are what some of the deliveries, from the first on, make of those before
abbrev pub AfterSome : ℕ → Accounts → List Delivery → Accounts → Type 0
AfterSome slot accounts deliveries after = (n : ℕ) × (after ≡ (after_deliveries slot (none_stored accounts) (take n deliveries)).accounts)

-- an account without what deliveries may change of it
abbrev pub undelivered : Account → Account
undelivered account = record account { preimages = fin.empty; lookups = fin.empty }
