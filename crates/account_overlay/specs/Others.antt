-- The accounts by the service's number: those at the start, and those now and as they were saved.
use Rattle.std.specs.Prelude.{◌≡◌, ℕ, ◌≤◌, ◌^◌, List, not, option_map, refl}
use Rattle.std.specs.Coded.{Coded, code_by, coded×}
use Rattle.std.specs.Ordering.{nat_cmp}
use Rattle.std.specs.BTreeMap.{is_at}
use Rattle.std.specs.Map.{lookup}
use Rattle.std.specs.FinMap as fin
use Rattle.jam_accounts.specs.Accounts.{Account, Accounts}
use Rattle.jam_accounts.specs.Footprint.{Footprint, footprint_of}
use Rattle.jam_accounts.specs.Coded.{coded_accounts}
use Rattle.account_overlay.specs.declared.layer.Change.{Change}
use Rattle.account_overlay.specs.Layers.{Halves, seen_change, halves_of, Covered}

pub record AccountsOver : Type 0 where
  pub base : Accounts
  pub now : Accounts
  pub saved : Accounts

abbrev pub coded_over : Coded AccountsOver
coded_over =
    code_by (Accounts × (Accounts × Accounts)) (coded× coded_accounts (coded× coded_accounts coded_accounts)) (λ a. (a.base, (a.now, a.saved))) (λ p. record { base = p.0; now = p.1.0; saved = p.1.1 }) (λ _. refl)

abbrev pub accounts_of : Accounts → (places journal : List (ℕ × Change Account)) → Halves Accounts
accounts_of base places journal = halves_of (λ k. k) (seen_change (λ a. a)) base places journal

abbrev pub accounts_over : Accounts → (places journal : List (ℕ × Change Account)) → AccountsOver
accounts_over base places journal = record { base = base; now = (accounts_of base places journal).now; saved = (accounts_of base places journal).saved }

-- the accounts that there are only now
abbrev pub added_in : (base now : Accounts) → Accounts
added_in base now = fin.retain_keys now (λ id. not (fin.contains_key base id))

abbrev pub added_count : (base now : Accounts) → ℕ
added_count base now = fin.len (added_in base now)

-- the table says what each account takes up
abbrev pub Counts : Accounts → List (ℕ × Footprint) → Type 0
Counts accounts table = (id : ℕ) → lookup (is_at (nat_cmp id)) table ≡ option_map footprint_of (fin.get accounts id)

-- what holds beside the places and the journal: each key of the journal has a place, the table counts the base, and so many were added
pub record AreKept (base : Accounts) (table : List (ℕ × Footprint)) (places journal : List (ℕ × Change Account)) (added saved_added : ℕ) : Type 0 where
  pub covered : Covered nat_cmp places journal
  pub counts : Counts base table
  pub added_now : added ≡ added_count base (accounts_of base places journal).now
  pub added_saved : saved_added ≡ added_count base (accounts_of base places journal).saved
  pub few_now : added ≤ 2 ^ 24
  pub few_saved : saved_added ≤ 2 ^ 24
