-- The pair of whole copies, once the two halves are parted and the one of now is changed.
use Rattle.std.proofs.Common.{◌≡◌, ◌≢◌, ℕ, ◌+◌, ◌<◌, ◌^◌, not, ◌||◌, Option, Some, IsSome, unwrap_or, Result, Ok, Err, OnOk, OnErr, sym, ap, subst, ◌∙◌}
use Rattle.std.specs.FinMap as fin
use Rattle.jam_accounts.specs.Accounts.{Account, Accounts, blank_account}
use Rattle.jam_accounts.specs.Footprint.{octets_of}
use Rattle.account_context.specs.declared.context_copy.ContextCopy.{ContextCopy}
use Rattle.account_context.specs.NewIds.{bump, ring_size}
use Rattle.account_context.specs.Context.{Pair, account_in, own_account, changed_account, change_own, with_accounts, add_account, IsLawful}
use Rattle.account_context.specs.FreeIds.{taken_count, max_services, first_free, free_id}
use Rattle.account_context.specs.Held.{context_of, saved_copy, pair_of}
use Rattle.account_context.specs.ContextLaws.{own_account-changed, lawful_change, lawful_addition, lawful_removal}
use Rattle.account_context.specs.NewIdLaws.{free_id-few}

-- what is left of an account's bound, for the account that is there
pub room_for : (pair : Pair) (change : Account → Account) → IsSome (account_in pair pair.service) → octets_of (own_account (change_own change pair)) < 2 ^ 100
    → (account : Account) → account_in pair pair.service ≡ Some account → octets_of (change account) < 2 ^ 100
room_for pair change there within account found =
    let own : own_account pair ≡ account = ap (λ f. unwrap_or f blank_account) found in
    subst (λ a. octets_of a < 2 ^ 100) (own_account-changed change pair there ∙ ap change own) within

module _ (base : Accounts) (service : ℕ) (now : ContextCopy) (saved parted : Option ContextCopy) (is : parted ≡ Some (saved_copy now saved)) (lawful : IsLawful (pair_of base service now saved)) where
  -- the saved half stays where the accounts of now are changed
  with_accounts_is : (accounts after : Accounts) → after ≡ accounts → pair_of base service (record now { accounts = after }) parted ≡ with_accounts (pair_of base service now saved) accounts
  with_accounts_is accounts after same = λ i. record {
    base = base;
    service = service;
    now = context_of (record now { accounts = same i });
    saved = context_of (saved_copy (record now { accounts = same i }) (is i));
  }

  pub lawful_own : (change : Account → Account) (after : Accounts) → after ≡ changed_account change now.accounts service (fin.get now.accounts service) → IsLawful (pair_of base service (record now { accounts = after }) parted)
  lawful_own change after same =
      subst IsLawful (sym (with_accounts_is (changed_account change now.accounts service (fin.get now.accounts service)) after same)) (lawful_change (pair_of base service now saved) lawful change)

  pub lawful_own_by : {A E : Type 0} (result : Result A E) (change : Account → Account) (after : Accounts) → OnOk result (after ≡ changed_account change now.accounts service (fin.get now.accounts service)) → OnErr result (after ≡ now.accounts)
      → IsLawful (pair_of base service (record now { accounts = after }) parted)
  lawful_own_by (Ok x) change after ok err = lawful_own change after ok
  lawful_own_by (Err e) change after ok err = subst IsLawful (sym (with_accounts_is now.accounts after err)) lawful

  pub lawful_added : (id : ℕ) (account : Account) (after : Accounts) (candidate : ℕ) → after ≡ fin.insert now.accounts id account → candidate ≡ bump id
      → IsLawful (pair_of base service (record now { accounts = after; candidate = candidate }) parted)
  lawful_added id account after candidate same moved =
      let added : pair_of base service (record now { accounts = after; candidate = candidate }) parted ≡ add_account (pair_of base service now saved) id account =
      λ i. record {
        base = base;
        service = service;
        now = context_of (record now { accounts = same i; candidate = moved i });
        saved = context_of (saved_copy (record now { accounts = same i; candidate = moved i }) (is i));
      } in
      subst IsLawful (sym added) (lawful_addition (pair_of base service now saved) lawful id account)

  pub lawful_removed : (id : ℕ) (after : Accounts) → id ≢ service → after ≡ fin.remove now.accounts id → IsLawful (pair_of base service (record now { accounts = after }) parted)
  lawful_removed id after apart same = subst IsLawful (sym (with_accounts_is (fin.remove now.accounts id) after same)) (lawful_removal (pair_of base service now saved) lawful id apart)

-- how many numbers are taken, counted over the two maps
pub taken_is : (pair : Pair) (base now : Accounts) (n m : ℕ) → base ≡ pair.base → now ≡ pair.now.accounts → n ≡ fin.len base → m ≡ fin.len (fin.retain_keys now (λ id. not (fin.contains_key base id))) → n + m ≡ taken_count pair
taken_is pair base now n m same_base same_now count added =
    (λ i. count i + added i) ∙ (λ i. fin.len (same_base i) + fin.len (fin.retain_keys (same_now i) (λ id. not (fin.contains_key (same_base i) id))))

pub first_is : (pair : Pair) (base now : Accounts) (candidate : ℕ) → base ≡ pair.base → now ≡ pair.now.accounts → candidate ≡ pair.now.candidate → taken_count pair < max_services
    → first_free (λ id. fin.contains_key base id || fin.contains_key now id) candidate ring_size 0 ≡ free_id pair
first_is pair base now candidate same_base same_now same few =
    (λ i. first_free (λ id. fin.contains_key (same_base i) id || fin.contains_key (same_now i) id) (same i) ring_size 0) ∙ sym (free_id-few pair few)
