-- The accounts that there are only now: their number, and what is left of changes once those of the base are gone.
use Rattle.std.proofs.Common.{◌≡◌, ℕ, ◌+◌, ◌-◌, ◌≤◌, ◌<◌, ◌^◌, Bool, true, false, cond, not, ◌||◌, List, [], Option, Some, None, IsSome, is_some, option_map, unwrap_or, Bor, refl, sym, ap, subst, ◌∙◌, arith}
use Rattle.std.specs.Prelude.{T}
use Rattle.std.specs.Ordering.{nat_cmp, eq_by_cmp}
use Rattle.std.specs.Cmp.{nat_cmp_total}
use Rattle.std.specs.FinMap as fin
use Rattle.std.specs.FinMap.{nat_cmp-IsAntisymmetric}
use Rattle.jam_accounts.specs.Accounts.{Account, Accounts, blank_account}
use Rattle.jam_accounts.specs.Footprint.{Footprint}
use Rattle.jam_accounts.specs.Seen.{seen_entries}
use Rattle.jam_accounts.specs.PutBackLaws.{equal, inserted_back, inserted_same}
use Rattle.account_context.specs.ContextLaws.{account_there, get-taken}
use Rattle.account_overlay.specs.declared.layer.Change.{Change}
use Rattle.account_overlay.specs.Layers.{Halves, seen_change, held, changed, Covered}
use Rattle.account_overlay.specs.Others.{AccountsOver, accounts_of, added_in, added_count, Counts, AreKept}
use Rattle.account_overlay.proofs.Overs.{stood, get-changed}

-- ---- what was looked up is not there

twice_not : (b : Bool) → not (not b) ≡ b
twice_not true = refl
twice_not false = refl

seen_as : {A : Type 0} (o : Option (Bor A)) (found : Option A) → option_map (λ r. r.now) o ≡ found → is_some found ≡ is_some o
seen_as None found is = ap is_some (sym is)
seen_as (Some r) found is = ap is_some (sym is)

pub missing_is : {A : Type 0} (o : Option (Bor A)) (found : Option A) (b : Bool) → option_map (λ r. r.now) o ≡ found → is_some o ≡ not b → not (is_some found) ≡ b
missing_is o found b is answer = ap not (seen_as o found is ∙ answer) ∙ twice_not b

pub not_there : (b : Bool) → not b ≡ true → b ≡ false
not_there true h = absurd (subst T (sym h) tt)
not_there false h = refl

pub there : (b : Bool) → not b ≡ false → b ≡ true
there true h = refl
there false h = absurd (subst T h tt)

nothing_there : {A : Type 0} (found : Option A) → not (is_some found) ≡ true → found ≡ None
nothing_there None h = refl
nothing_there (Some a) h = absurd (subst T (sym h) tt)

pub neither_left : (a b : Bool) → (a || b) ≡ false → a ≡ false
neither_left true b h = absurd (subst T h tt)
neither_left false b h = refl

neither_right : (a b : Bool) → (a || b) ≡ false → b ≡ false
neither_right true b h = absurd (subst T h tt)
neither_right false b h = h

pub neither_found : {A : Type 0} (a : Bool) (found : Option A) → (a || is_some found) ≡ false → found ≡ None
neither_found a None h = refl
neither_found a (Some x) h = absurd (subst T (neither_right a true h) tt)

-- ---- those that were added

module _ (base : Accounts) where
  abbrev missing : ℕ → Bool
  missing id = not (fin.contains_key base id)

  got_added : (m : Accounts) (q : ℕ) → fin.get (added_in base m) q ≡ cond (missing q) (fin.get m q) None
  got_added m q = fin.get-retain_keys m missing q (λ x same. ap missing (sym (nat_cmp-IsAntisymmetric q x same)))

  found_twice : {A : Type 0} (found : Option A) → cond (not (is_some found)) found None ≡ None
  found_twice None = refl
  found_twice (Some a) = refl

  pub none_added : added_count base base ≡ 0
  none_added =
      ap fin.len (fin.same_map nat_cmp_total nat_cmp-IsAntisymmetric (added_in base base) fin.empty (λ q. got_added base q ∙ found_twice (fin.get base q) ∙ sym (fin.get-empty nat_cmp q)))
      ∙ fin.len-empty nat_cmp Account

  module _ (m : Accounts) (id : ℕ) where
    put_by : (account : Account) → missing id ≡ true → (q : ℕ) (b : Bool) → eq_by_cmp nat_cmp q id ≡ b
        → cond (missing q) (cond b (Some account) (fin.get m q)) None ≡ cond b (Some account) (cond (missing q) (fin.get m q) None)
    put_by account new q true same = ap (λ b. cond b (Some account) None) (ap missing (nat_cmp-IsAntisymmetric q id (equal (nat_cmp q id) same)) ∙ new)
    put_by account new q false apart = refl

    added_with : (account : Account) → missing id ≡ true → added_in base (fin.insert m id account) ≡ fin.insert (added_in base m) id account
    added_with account new =
        fin.same_map nat_cmp_total nat_cmp-IsAntisymmetric (added_in base (fin.insert m id account)) (fin.insert (added_in base m) id account) (λ q.
        got_added (fin.insert m id account) q ∙ ap (λ found. cond (missing q) found None) (fin.get-insert nat_cmp_total m id account q)
        ∙ put_by account new q (eq_by_cmp nat_cmp q id) refl
        ∙ sym (fin.get-insert nat_cmp_total (added_in base m) id account q ∙ ap (cond (eq_by_cmp nat_cmp q id) (Some account)) (got_added m q)))

    none_of : (b : Bool) (found : Option Account) → found ≡ None → is_some (cond b found None) ≡ false
    none_of true found none = ap is_some none
    none_of false found none = refl

    -- one more
    pub count_added : (account : Account) → fin.contains_key base id ≡ false → fin.get m id ≡ None → added_count base (fin.insert m id account) ≡ added_count base m + 1
    count_added account new none =
        ap fin.len (added_with account (ap not new)) ∙ fin.len-insert nat_cmp_total (added_in base m) id account
        ∙ ap (λ b. cond b (fin.len (added_in base m)) (fin.len (added_in base m) + 1)) (ap is_some (got_added m id) ∙ none_of (missing id) (fin.get m id) none)

    gone_by : fin.contains_key base id ≡ true → (q : ℕ) (b : Bool) → eq_by_cmp nat_cmp q id ≡ b → cond (missing q) (cond b None (fin.get m q)) None ≡ cond (missing q) (fin.get m q) None
    gone_by old q true same =
        let out : missing q ≡ false = ap missing (nat_cmp-IsAntisymmetric q id (equal (nat_cmp q id) same)) ∙ ap not old in
        ap (λ b. cond b None None) out ∙ sym (ap (λ b. cond b (fin.get m q) None) out)
    gone_by old q false apart = refl

    -- one of the base
    pub added_without : fin.contains_key base id ≡ true → added_in base (fin.remove m id) ≡ added_in base m
    added_without old =
        fin.same_map nat_cmp_total nat_cmp-IsAntisymmetric (added_in base (fin.remove m id)) (added_in base m) (λ q.
        got_added (fin.remove m id) q ∙ ap (λ found. cond (missing q) found None) (fin.get-remove nat_cmp_total m id q)
        ∙ gone_by old q (eq_by_cmp nat_cmp q id) refl ∙ sym (got_added m q))

    kept_by : (account : Account) → fin.contains_key base id ≡ true → (q : ℕ) (b : Bool) → eq_by_cmp nat_cmp q id ≡ b → cond (missing q) (cond b (Some account) (fin.get m q)) None ≡ cond (missing q) (fin.get m q) None
    kept_by account old q true same =
        let out : missing q ≡ false = ap missing (nat_cmp-IsAntisymmetric q id (equal (nat_cmp q id) same)) ∙ ap not old in
        ap (λ b. cond b (Some account) None) out ∙ sym (ap (λ b. cond b (fin.get m q) None) out)
    kept_by account old q false apart = refl

    pub added_beside : (account : Account) → fin.contains_key base id ≡ true → added_in base (fin.insert m id account) ≡ added_in base m
    added_beside account old =
        fin.same_map nat_cmp_total nat_cmp-IsAntisymmetric (added_in base (fin.insert m id account)) (added_in base m) (λ q.
        got_added (fin.insert m id account) q ∙ ap (λ found. cond (missing q) found None) (fin.get-insert nat_cmp_total m id account q)
        ∙ kept_by account old q (eq_by_cmp nat_cmp q id) refl ∙ sym (got_added m q))

  -- one less
  pub count_removed : (m : Accounts) (id : ℕ) → fin.contains_key base id ≡ false → IsSome (fin.get m id) → added_count base m ≡ added_count base (fin.remove m id) + 1
  count_removed m id new there =
      let account : Account = unwrap_or (fin.get m id) blank_account in
      let whole : fin.insert (fin.remove m id) id account ≡ m =
      inserted_back nat_cmp_total nat_cmp-IsAntisymmetric m id account ∙ inserted_same nat_cmp_total nat_cmp-IsAntisymmetric m id account (account_there (fin.get m id) there) in
      ap (added_count base) (sym whole) ∙ count_added (fin.remove m id) id account new (get-taken m id)

  stands_by : (b : Bool) (found below : Option Account) (change : Change Account) → (b ≡ true → below ≡ None) → cond b (held change None) None ≡ cond b (held change below) None
  stands_by true found below change none = ap (held change) (sym (none refl))
  stands_by false found below change none = refl

  -- those that the places hold, over nothing, are those over the base
  pub added_alike : (places : List (ℕ × Change Account)) → added_in base (accounts_of fin.empty places []).now ≡ added_in base (accounts_of base places []).now
  added_alike places =
      let cs : List (ℕ × Change Account) = seen_entries (λ (k : ℕ). k) (seen_change (λ (a : Account). a)) places in
      fin.same_map nat_cmp_total nat_cmp-IsAntisymmetric (added_in base (changed fin.empty fin.empty cs)) (added_in base (changed base base cs)) (λ q.
      got_added (changed fin.empty fin.empty cs) q
      ∙ ap (λ found. cond (missing q) found None) (get-changed fin.empty nat_cmp_total nat_cmp-IsAntisymmetric cs q ∙ ap (held (stood (fin.find nat_cmp q cs))) (fin.get-empty nat_cmp q))
      ∙ stands_by (missing q) None (fin.get base q) (stood (fin.find nat_cmp q cs)) (nothing_there (fin.get base q))
      ∙ ap (λ found. cond (missing q) found None) (sym (get-changed base nat_cmp_total nat_cmp-IsAntisymmetric cs q))
      ∙ sym (got_added (changed base base cs) q))

-- ---- what is kept beside the places and the journal, after a change

module _ (base : Accounts) (table : List (ℕ × Footprint)) (places journal places' journal' : List (ℕ × Change Account)) (added saved_added : ℕ) (kept : AreKept base table places journal added saved_added)
    (covered : Covered nat_cmp places' journal') where
  pub kept_set : (now : Accounts) (count : ℕ) → accounts_of base places' journal' ≡ record { now = now; saved = (accounts_of base places journal).saved } → count ≡ added_count base now → count ≤ 2 ^ 24
      → AreKept base table places' journal' count saved_added
  kept_set now count halves is few = record {
    covered = covered;
    counts = kept.counts;
    added_now = is ∙ ap (λ (h : Halves Accounts). added_count base h.now) (sym halves);
    added_saved = kept.added_saved ∙ ap (λ (h : Halves Accounts). added_count base h.saved) (sym halves);
    few_now = few;
    few_saved = kept.few_saved;
  }

  pub kept_rolled : accounts_of base places' journal' ≡ record { now = (accounts_of base places journal).saved; saved = (accounts_of base places journal).saved } → AreKept base table places' journal' saved_added saved_added
  kept_rolled halves = record {
    covered = covered;
    counts = kept.counts;
    added_now = kept.added_saved ∙ ap (λ (h : Halves Accounts). added_count base h.now) (sym halves);
    added_saved = kept.added_saved ∙ ap (λ (h : Halves Accounts). added_count base h.saved) (sym halves);
    few_now = kept.few_saved;
    few_saved = kept.few_saved;
  }

pub over_is : (base : Accounts) (h g : Halves Accounts) → h ≡ g → ◌≡◌ {A = AccountsOver} (record { base = base; now = h.now; saved = h.saved }) (record { base = base; now = g.now; saved = g.saved })
over_is base h g same = λ i. record { base = base; now = (same i).now; saved = (same i).saved }

pub few_more : (base_count added counted : ℕ) → added ≡ counted → base_count + counted < 2 ^ 24 → added + 1 ≤ 2 ^ 24
few_more base_count added counted is few = omega (arith, is, few)

pub one_more : (added counted more : ℕ) → added ≡ counted → more ≡ counted + 1 → added + 1 ≡ more
one_more added counted more is h = omega (arith, is, h)

pub some_added : (added counted less : ℕ) → added ≡ counted → counted ≡ less + 1 → 1 ≤ added
some_added added counted less is h = omega (arith, is, h)

pub one_less : (added counted less : ℕ) → added ≡ counted → counted ≡ less + 1 → added - 1 ≡ less
one_less added counted less is h = omega (arith, is, h)

pub few_less : (added : ℕ) → added ≤ 2 ^ 24 → added - 1 ≤ 2 ^ 24
few_less added few = omega (arith, few)

pub kept_new : (base : Accounts) (table : List (ℕ × Footprint)) → Counts base table → (places journal : List (ℕ × Change Account)) → places ≡ [] → journal ≡ [] → AreKept base table places journal 0 0
kept_new base table counts places journal no_place no_undo = record {
  covered = subst (Covered nat_cmp places) (sym no_undo) tt;
  counts = counts;
  added_now = sym (none_added base) ∙ ap (λ es. added_count base (accounts_of base es journal).now) (sym no_place);
  added_saved = sym (none_added base) ∙ (λ i. added_count base (accounts_of base (sym no_place i) (sym no_undo i)).saved);
  few_now = omega arith;
  few_saved = omega arith;
}
