-- The pair of the parts of an overlay: its accounts, and what a change of a part does to it.
use Rattle.std.proofs.Common.{◌≡◌, ◌≢◌, ℕ, ◌+◌, ◌<◌, ◌≤◌, ◌^◌, Bool, true, false, cond, not, ◌||◌, List, [], Option, Some, None, IsSome, is_some, unwrap_or, Result, Ok, Err, OnOk, OnErr, inl, inr, ◌⊎◌, refl, sym, ap, subst, ◌∙◌, arith}
use Rattle.std.specs.Prelude.{T}
use Rattle.std.specs.List.{filter}
use Rattle.std.specs.Ordering.{nat_cmp, eq_by_cmp}
use Rattle.std.specs.Cmp.{nat_cmp_total}
use Rattle.std.specs.FinMap as fin
use Rattle.std.specs.FinMap.{nat_cmp-IsAntisymmetric}
use Rattle.std.proofs.lemmas.Bool.{cases_lt}
use Rattle.jam_accounts.specs.Accounts.{Account, Accounts, blank_account}
use Rattle.jam_accounts.specs.PutBackLaws.{equal, inserted_twice, inserted_same}
use Rattle.account_context.specs.NewIds.{IsInRing, bump, first_candidate}
use Rattle.account_context.specs.NewIdLaws.{free_id-first, free_id-none}
use Rattle.account_context.specs.Context.{started, account_in, own_account, changed_account, change_own, add_account, remove_account, IsLawful}
use Rattle.account_context.specs.FreeIds.{taken_count, is_taken, max_services, free_id, IsFirstFree, added_accounts}
use Rattle.account_context.specs.Difference.{removed_ids}
use Rattle.account_context.specs.ContextLaws.{get-put, get-put-other, get-taken-other, there-put, own_account-changed}
use Rattle.account_overlay.specs.Layers.{Halves}
use Rattle.account_overlay.specs.Others.{AccountsOver, added_in, added_count}
use Rattle.account_overlay.specs.Pairs.{Issue, pair_with, IsOverlaid}
use Rattle.account_overlay.proofs.Overs.{with_swapped}
use Rattle.account_overlay.proofs.Added.{added_beside}

pub one_ok : {A E P S : Type 0} (r : Result A E) → OnOk r P → (P → S) → OnOk r S
one_ok (Ok a) p f = f p
one_ok (Err e) p f = tt

either : (b : Bool) (account : Account) (found : Option Account) → (b ≡ true → IsSome found) → is_some (cond b (Some account) found) ≡ is_some found
either true account found there = sym (there refl)
either false account found there = refl

-- an account in the place of one that is there
pub contains_same : (m : Accounts) (service : ℕ) (account : Account) → IsSome (fin.get m service) → (q : ℕ) → fin.contains_key (fin.insert m service account) q ≡ fin.contains_key m q
contains_same m service account there q =
    ap is_some (fin.get-insert nat_cmp_total m service account q)
    ∙ either (eq_by_cmp nat_cmp q service) account (fin.get m q) (λ same. subst (λ k. IsSome (fin.get m k)) (sym (nat_cmp-IsAntisymmetric q service (equal (nat_cmp q service) same))) there)

not_both : (id service : ℕ) → id ≢ service → (q : ℕ) → eq_by_cmp nat_cmp q id ≡ true → eq_by_cmp nat_cmp q service ≡ true → ⊥
not_both id service apart q one other = apart (sym (nat_cmp-IsAntisymmetric q id (equal (nat_cmp q id) one)) ∙ nat_cmp-IsAntisymmetric q service (equal (nat_cmp q service) other))

taken_apart : (a b : Bool) → a ≡ true → (a || b) ≡ false → ⊥
taken_apart true b there free = subst T free tt
taken_apart false b there free = subst T (sym there) tt

module _ (service : ℕ) (others : AccountsOver) (own : Halves Account) (issued : Halves Issue) where
  own_there : account_in (pair_with service others own issued) service ≡ Some own.now
  own_there = get-put others.now service own.now

  pub account_own : (id : ℕ) → id ≡ service → account_in (pair_with service others own issued) id ≡ Some own.now
  account_own id same = ap (account_in (pair_with service others own issued)) same ∙ own_there

  pub account_other : (id : ℕ) → id ≢ service → account_in (pair_with service others own issued) id ≡ fin.get others.now id
  account_other id apart = get-put-other others.now service own.now id apart

  pub own_account_is : own_account (pair_with service others own issued) ≡ own.now
  own_account_is = ap (λ found. unwrap_or found blank_account) own_there

  -- the service's own account is changed
  pub own_changed : (change : Account → Account) (after : Halves Account) → after ≡ record own { now = change own.now } → pair_with service others after issued ≡ change_own change (pair_with service others own issued)
  own_changed change after same =
      let accounts : Accounts = fin.insert others.now service own.now in
      let put : changed_account change accounts service (fin.get accounts service) ≡ fin.insert others.now service (change own.now) =
      ap (changed_account change accounts service) own_there ∙ inserted_twice nat_cmp_total nat_cmp-IsAntisymmetric others.now service own.now (change own.now) in
      (λ i. pair_with service others (same i) issued)
      ∙ (λ i. record {
        base = others.base;
        service = service;
        now = record { accounts = sym put i; candidate = issued.now.candidate; transfers = issued.now.transfers; yielded = issued.now.yielded; provided = issued.now.provided };
        saved = (pair_with service others own issued).saved;
      })

  pub own_changed_is : (change : Account → Account) → own_account (change_own change (pair_with service others own issued)) ≡ change own.now
  own_changed_is change =
      own_account-changed change (pair_with service others own issued) (ap is_some own_there) ∙ ap change own_account_is

  module _ (overlaid : IsOverlaid service others issued) where
    pub lawful : IsLawful (pair_with service others own issued)
    lawful = record {
      base = overlaid.there_base;
      now = record { own = ap is_some (get-put others.now service own.now); candidate = overlaid.ring_now };
      saved = record { own = ap is_some (get-put others.saved service own.saved); candidate = overlaid.ring_saved };
    }

    pub added_accounts_are : added_in others.base others.now ≡ added_accounts (pair_with service others own issued)
    added_accounts_are = sym (added_beside others.base others.now service own.now overlaid.there_base)

    pub taken_is : fin.len others.base + added_count others.base others.now ≡ taken_count (pair_with service others own issued)
    taken_is = ap (λ m. fin.len others.base + fin.len m) added_accounts_are

    pub taken_as : (q : ℕ) → (fin.contains_key others.base q || fin.contains_key others.now q) ≡ is_taken (pair_with service others own issued) q
    taken_as q = ap (λ b. fin.contains_key others.base q || b) (sym (contains_same others.now service own.now overlaid.there_now q))

    pub removed_are : filter (λ id. not (fin.contains_key others.now id)) (fin.keys others.base) ≡ removed_ids (pair_with service others own issued)
    removed_are = λ i. filter (λ id. not (sym (contains_same others.now service own.now overlaid.there_now id) i)) (fin.keys others.base)

    module _ (id : ℕ) (is : free_id (pair_with service others own issued) ≡ Some id) where
      pub free_there : (fin.contains_key others.base id || fin.contains_key others.now id) ≡ false
      free_there = let first : IsFirstFree (pair_with service others own issued) id = free_id-first (pair_with service others own issued) id is in taken_as id ∙ first.free

      few_by : (taken_count (pair_with service others own issued) < max_services) ⊎ (max_services ≤ taken_count (pair_with service others own issued)) → taken_count (pair_with service others own issued) < max_services
      few_by (inl few) = few
      few_by (inr many) = absurd (subst T (ap is_some (sym is ∙ free_id-none (pair_with service others own issued) many)) tt)

      pub few_there : fin.len others.base + added_count others.base others.now < 2 ^ 24
      few_there = omega (arith, taken_is, few_by (cases_lt (taken_count (pair_with service others own issued)) max_services))

      pub free_apart : id ≢ service
      free_apart same = taken_apart (fin.contains_key others.base id) (fin.contains_key others.now id) (subst (λ k. IsSome (fin.get others.base k)) (sym same) overlaid.there_base) free_there

      -- an account is added
      module _ (account : Account) (after : AccountsOver) (same : after ≡ record others { now = fin.insert others.now id account }) (issued_after : Halves Issue)
          (moved : issued_after ≡ record issued { now = record issued.now { candidate = bump id } }) where
        pub account_added : pair_with service after own issued_after ≡ add_account (pair_with service others own issued) id account
        account_added =
            let swapped : fin.insert (fin.insert others.now id account) service own.now ≡ fin.insert (fin.insert others.now service own.now) id account =
            with_swapped nat_cmp_total nat_cmp-IsAntisymmetric others.now id service (not_both id service free_apart) (Some account) (Some own.now) in
            (λ i. pair_with service (same i) own (moved i))
            ∙ (λ i. record {
              base = others.base;
              service = service;
              now = record { accounts = swapped i; candidate = bump id; transfers = issued.now.transfers; yielded = issued.now.yielded; provided = issued.now.provided };
              saved = (pair_with service others own issued).saved;
            })

        pub overlaid_added : IsInRing (bump id) → IsOverlaid service after issued_after
        overlaid_added ring = subst (λ (a : AccountsOver). IsOverlaid service a issued_after) (sym same) (subst (λ (h : Halves Issue). IsOverlaid service (record others { now = fin.insert others.now id account }) h) (sym moved) (record {
          there_base = overlaid.there_base;
          there_now = there-put others.now id account service overlaid.there_now;
          there_saved = overlaid.there_saved;
          ring_now = ring;
          ring_saved = overlaid.ring_saved;
        }))

    -- an account is removed
    module _ (id : ℕ) (apart : id ≢ service) where
      pub account_removed : (after : AccountsOver) → after ≡ record others { now = fin.remove others.now id } → pair_with service after own issued ≡ remove_account (pair_with service others own issued) id
      account_removed after same =
          let swapped : fin.insert (fin.remove others.now id) service own.now ≡ fin.remove (fin.insert others.now service own.now) id =
          with_swapped nat_cmp_total nat_cmp-IsAntisymmetric others.now id service (not_both id service apart) None (Some own.now) in
          (λ i. pair_with service (same i) own issued)
          ∙ (λ i. record {
            base = others.base;
            service = service;
            now = record { accounts = swapped i; candidate = issued.now.candidate; transfers = issued.now.transfers; yielded = issued.now.yielded; provided = issued.now.provided };
            saved = (pair_with service others own issued).saved;
          })

      pub overlaid_removed : {A E : Type 0} (r : Result A E) (after : AccountsOver) → OnOk r (after ≡ record others { now = fin.remove others.now id }) → OnErr r (after ≡ others) → IsOverlaid service after issued
      overlaid_removed (Ok a) after ok err = subst (λ (a : AccountsOver). IsOverlaid service a issued) (sym ok) (record {
        there_base = overlaid.there_base;
        there_now = subst IsSome (sym (get-taken-other others.now id service (λ same. apart (sym same)))) overlaid.there_now;
        there_saved = overlaid.there_saved;
        ring_now = overlaid.ring_now;
        ring_saved = overlaid.ring_saved;
      })
      overlaid_removed (Err e) after ok err = subst (λ (a : AccountsOver). IsOverlaid service a issued) (sym err) overlaid

-- at the start
pub started_is : (base : Accounts) (service : ℕ) (account : Account) → fin.get base service ≡ Some account
    → (others : AccountsOver) → others ≡ record { base = base; now = base; saved = base } → (own : Halves Account) → own ≡ record { now = account; saved = account }
    → (issued : Halves Issue) (candidate : ℕ) → issued.now ≡ record { candidate = candidate; transfers = []; yielded = None; provided = [] } → issued.saved ≡ record { candidate = candidate; transfers = []; yielded = None; provided = [] }
    → (entropy : List ℕ) (slot : ℕ) → candidate ≡ first_candidate service entropy slot → pair_with service others own issued ≡ started base service entropy slot
started_is base service account there others others_are own own_is issued candidate now saved entropy slot first =
    let same : fin.insert base service account ≡ base = inserted_same nat_cmp_total nat_cmp-IsAntisymmetric base service account there in
    (λ i. pair_with service (others_are i) (own_is i) (record { now = now i; saved = saved i }))
    ∙ (λ i. record {
      base = base;
      service = service;
      now = record { accounts = same i; candidate = first i; transfers = []; yielded = None; provided = [] };
      saved = record { accounts = same i; candidate = first i; transfers = []; yielded = None; provided = [] };
    })
