-- Accounts that there are in one of two maps alone: counted, listed and kept, entry by entry.
use Rattle.std.proofs.Common.{◌≡◌, ℕ, suc, ◌+◌, ◌≤◌, Bool, true, false, cond, not, ◌&&◌, ◌||◌, List, [], ◌∷◌, ◌++◌, map, length, Option, Some, None, is_some, option_map, Bor, refl, sym, ap, ◌∙◌, arith, inl, inr, eq-eqb, nat_eq, ◌⊎◌, append_assoc, append-nil}
use Rattle.std.specs.List.{filter, list_any}
use Rattle.std.proofs.lemmas.Bool.{cases_eq, ne_eqb}
use Rattle.std.specs.Ordering.{nat_cmp, is_eq, eq_by_cmp}
use Rattle.std.specs.declared.cmp.Ordering.TheVariants.{Equal}
use Rattle.std.specs.Cmp.{nat_cmp_total, tied_itself}
use Rattle.std.specs.FinMap as fin
use Rattle.std.specs.FinMap.{nat_cmp-IsAntisymmetric}
use Rattle.std.specs.FinMap.Entries.{where_key, is_sorted-where_key, find-where_key}
use Rattle.jam_accounts.specs.Accounts.{Account, Accounts}
use Rattle.jam_accounts.specs.PutBackLaws.{equal}

-- ---- counted

module _ (keep : ℕ → Bool) where
  alike_keys : (q x : ℕ) → nat_cmp q x ≡ Equal → keep x ≡ keep q
  alike_keys q x same = ap keep (sym (nat_cmp-IsAntisymmetric q x same))

  -- the entries of the accounts that are kept
  kept_entries : (m : Accounts) → fin.entries (fin.retain_keys m keep) ≡ where_key nat_cmp keep (fin.entries m)
  kept_entries m =
      let sorted = is_sorted-where_key nat_cmp keep (fin.entries m) (fin.entries_sorted m) in
      ap fin.entries (fin.same_map nat_cmp_total nat_cmp-IsAntisymmetric (fin.retain_keys m keep) (fin.from_sorted (where_key nat_cmp keep (fin.entries m))) (λ q.
      fin.get-retain_keys m keep q (alike_keys q)
      ∙ ap (λ found. cond (keep q) found None) (fin.get-entries m q)
      ∙ sym (fin.get-from_sorted nat_cmp (where_key nat_cmp keep (fin.entries m)) q sorted ∙ find-where_key nat_cmp keep q (alike_keys q) (fin.entries m))))
      ∙ fin.entries-from_sorted nat_cmp (where_key nat_cmp keep (fin.entries m)) sorted

  pub kept_count : List (ℕ × Account) → ℕ
  kept_count entries = length (where_key nat_cmp keep entries)

  pub kept_count-all : (m : Accounts) → kept_count (fin.entries m) ≡ fin.len (fin.retain_keys m keep)
  unfolding kept_count
  kept_count-all m = ap length (sym (kept_entries m)) ∙ sym (fin.len-entries (fin.retain_keys m keep))

  pub kept_count-none : (entries : List (ℕ × Account)) → entries ≡ [] → kept_count entries ≡ 0
  unfolding kept_count
  kept_count-none entries none = ap (λ es. length (where_key nat_cmp keep es)) none

  pub kept_count-one : (entries rest : List (ℕ × Account)) (id : ℕ) (account : Account) → entries ≡ (id, account) ∷ rest → kept_count entries ≡ cond (keep id) (suc (kept_count rest)) (kept_count rest)
  unfolding kept_count
  kept_count-one entries rest id account is =
      ap (λ es. length (where_key nat_cmp keep es)) is
      ∙ elim (keep id) as (λ b. length (cond b ((id, account) ∷ where_key nat_cmp keep rest) (where_key nat_cmp keep rest)) ≡ cond b (suc (length (where_key nat_cmp keep rest))) (length (where_key nat_cmp keep rest))) [
        | true ↦ refl
        | false ↦ refl
      ]

-- ---- listed

pub keys : List (ℕ × Account) → List ℕ
keys entries = map (λ e. e.0) entries

module _ (absent : ℕ → Bool) where
  pub listed : List (ℕ × Account) → List ℕ
  listed entries = filter absent (map (λ e. e.0) entries)

  pub listed-all : (m : Accounts) → listed (fin.entries m) ≡ filter absent (fin.keys m)
  unfolding listed
  listed-all m = refl

  pub listed-none : (entries : List (ℕ × Account)) → entries ≡ [] → listed entries ≡ []
  unfolding listed
  listed-none entries none = ap (λ es. filter absent (map (λ e. e.0) es)) none

  pub listed-one : (entries rest : List (ℕ × Account)) (id : ℕ) (account : Account) → entries ≡ (id, account) ∷ rest → listed entries ≡ cond (absent id) (id ∷ listed rest) (listed rest)
  unfolding listed
  listed-one entries rest id account is = ap (λ es. filter absent (map (λ e. e.0) es)) is

-- ---- entry by entry

-- what was looked up is not there
twice_not : (b : Bool) → not (not b) ≡ b
twice_not true = refl
twice_not false = refl

seen_as : {A : Type 0} (o : Option (Bor A)) (found : Option A) → option_map (λ r. r.now) o ≡ found → is_some found ≡ is_some o
seen_as None found is = ap is_some (sym is)
seen_as (Some r) found is = ap is_some (sym is)

pub missing_is : {A : Type 0} (o : Option (Bor A)) (found : Option A) (b : Bool) → option_map (λ r. r.now) o ≡ found → is_some o ≡ not b → not (is_some found) ≡ b
missing_is o found b is answer = ap not (seen_as o found is ∙ answer) ∙ twice_not b

module _ (keep : ℕ → Bool) (entries rest : List (ℕ × Account)) (id : ℕ) (account : Account) (steps : entries ≡ (id, account) ∷ rest) where
  pub counted_more : (count total : ℕ) → keep id ≡ true → count + kept_count keep entries ≡ total → (count + 1) + kept_count keep rest ≡ total
  counted_more count total here sum =
      let one : kept_count keep entries ≡ suc (kept_count keep rest) = kept_count-one keep entries rest id account steps ∙ ap (λ b. cond b (suc (kept_count keep rest)) (kept_count keep rest)) here in
      omega (arith, one, sum)

  pub counted_past : (count total : ℕ) → keep id ≡ false → count + kept_count keep entries ≡ total → count + kept_count keep rest ≡ total
  counted_past count total here sum =
      let none : kept_count keep entries ≡ kept_count keep rest = kept_count-one keep entries rest id account steps ∙ ap (λ b. cond b (suc (kept_count keep rest)) (kept_count keep rest)) here in
      omega (arith, none, sum)

  length_rest : length entries ≡ suc (length rest)
  length_rest = ap length steps

  pub few_more : (count n : ℕ) → count + length entries ≤ n → (count + 1) + length rest ≤ n
  few_more count n few = omega (arith, length_rest, few)

  pub few_past : (count n : ℕ) → count + length entries ≤ n → count + length rest ≤ n
  few_past count n few = omega (arith, length_rest, few)

  pub listed_more : (before after total : List ℕ) → after ≡ before ++ id ∷ [] → keep id ≡ true → before ++ listed keep entries ≡ total → after ++ listed keep rest ≡ total
  listed_more before after total pushed here all =
      ap (λ ids. ids ++ listed keep rest) pushed ∙ append_assoc before (id ∷ []) (listed keep rest)
      ∙ ap (λ ids. before ++ ids) (sym (listed-one keep entries rest id account steps ∙ ap (λ b. cond b (id ∷ listed keep rest) (listed keep rest)) here)) ∙ all

  pub listed_past : (before total : List ℕ) → keep id ≡ false → before ++ listed keep entries ≡ total → before ++ listed keep rest ≡ total
  listed_past before total here all =
      ap (λ ids. before ++ ids) (sym (listed-one keep entries rest id account steps ∙ ap (λ b. cond b (id ∷ listed keep rest) (listed keep rest)) here)) ∙ all

-- at the start, and at the end
pub counted_none : (keep : ℕ → Bool) (left : List (ℕ × Account)) (m : Accounts) → left ≡ fin.entries m → 0 + kept_count keep left ≡ kept_count keep (fin.entries m)
counted_none keep left m all = let same : kept_count keep left ≡ kept_count keep (fin.entries m) = ap (kept_count keep) all in omega (arith, same)

pub few_none : (left : List (ℕ × Account)) (m : Accounts) → left ≡ fin.entries m → 0 + length left ≤ fin.len m
few_none left m all = let same : length left ≡ fin.len m = ap length all ∙ sym (fin.len-entries m) in omega (arith, same)

pub counted_all : (keep : ℕ → Bool) (left : List (ℕ × Account)) (m : Accounts) (count : ℕ) → left ≡ [] → count + kept_count keep left ≡ kept_count keep (fin.entries m) → count ≡ fin.len (fin.retain_keys m keep)
counted_all keep left m count none sum =
    let nothing : kept_count keep left ≡ 0 = kept_count-none keep left none in
    let all : kept_count keep (fin.entries m) ≡ fin.len (fin.retain_keys m keep) = kept_count-all keep m in
    omega (arith, nothing, sum, all)

pub listed_all : (absent : ℕ → Bool) (left : List (ℕ × Account)) (m : Accounts) (ids : List ℕ) → left ≡ [] → ids ++ listed absent left ≡ listed absent (fin.entries m) → ids ≡ filter absent (fin.keys m)
listed_all absent left m ids none all = sym (append-nil ids) ∙ ap (λ more. ids ++ more) (sym (listed-none absent left none)) ∙ all ∙ listed-all absent m

-- ---- kept

pub without_each : List (ℕ × Account) → Accounts → Accounts
without_each [] m = m
without_each (e ∷ es) m = without_each es (fin.remove m e.0)

pub without_each-none : (entries : List (ℕ × Account)) (m : Accounts) → entries ≡ [] → without_each entries m ≡ m
unfolding without_each
without_each-none entries m none = ap (λ es. without_each es m) none

pub without_each-one : (entries rest : List (ℕ × Account)) (id : ℕ) (account : Account) (m : Accounts) → entries ≡ (id, account) ∷ rest → without_each entries m ≡ without_each rest (fin.remove m id)
unfolding without_each
without_each-one entries rest id account m is = ap (λ es. without_each es m) is

-- one removed more
pub without_each-more : (entries rest : List (ℕ × Account)) (id : ℕ) (account : Account) (m after all : Accounts) → entries ≡ (id, account) ∷ rest → after ≡ fin.remove m id → without_each entries m ≡ all → without_each rest after ≡ all
without_each-more entries rest id account m after all steps removed so_far = ap (without_each rest) removed ∙ sym (without_each-one entries rest id account m steps) ∙ so_far

among : ℕ → List (ℕ × Account) → Bool
among q es = list_any (eq_by_cmp nat_cmp q) (map (λ e. e.0) es)

removed_or : (b c : Bool) (found : Option Account) → cond c None (cond b None found) ≡ cond (b || c) None found
removed_or true true found = refl
removed_or true false found = refl
removed_or false c found = refl

get-without_each : (es : List (ℕ × Account)) (m : Accounts) (q : ℕ) → fin.get (without_each es m) q ≡ cond (among q es) None (fin.get m q)
unfolding without_each among
get-without_each [] m q = refl
get-without_each (e ∷ es) m q =
    get-without_each es (fin.remove m e.0) q ∙ ap (λ found. cond (among q es) None found) (fin.get-remove nat_cmp_total m e.0 q)
    ∙ removed_or (eq_by_cmp nat_cmp q e.0) (among q es) (fin.get m q)

turned : (b : Bool) (found : Option Account) → cond b None found ≡ cond (not b) found None
turned true found = refl
turned false found = refl

-- without each that there was at the start: those that were added
pub without_each-all : (base m : Accounts) → without_each (fin.entries base) m ≡ fin.retain_keys m (λ id. not (fin.contains_key base id))
unfolding among
without_each-all base m =
    let missing : ℕ → Bool = λ id. not (fin.contains_key base id) in
    fin.same_map nat_cmp_total nat_cmp-IsAntisymmetric (without_each (fin.entries base) m) (fin.retain_keys m missing) (λ q.
    get-without_each (fin.entries base) m q
    ∙ ap (λ b. cond b None (fin.get m q)) (sym (fin.contains_key-keys base q))
    ∙ turned (fin.contains_key base q) (fin.get m q)
    ∙ sym (fin.get-retain_keys m missing q (alike_keys missing q)))

-- what a removal of an account that is not kept leaves
not_kept : (q id : ℕ) (keep : ℕ → Bool) → keep id ≡ false → (b : Bool) → is_eq (nat_cmp q id) ≡ b → (found : Option Account) → cond (keep q) (cond b None found) None ≡ cond (keep q) found None
not_kept q id keep out true same found =
    let here : keep q ≡ false = ap keep (nat_cmp-IsAntisymmetric q id (equal (nat_cmp q id) same)) ∙ out in
    ap (λ b. cond b None None) here ∙ sym (ap (λ b. cond b found None) here)
not_kept q id keep out false other found = refl

pub kept_without : (m : Accounts) (id : ℕ) (keep : ℕ → Bool) → keep id ≡ false → fin.retain_keys (fin.remove m id) keep ≡ fin.retain_keys m keep
kept_without m id keep out =
    fin.same_map nat_cmp_total nat_cmp-IsAntisymmetric (fin.retain_keys (fin.remove m id) keep) (fin.retain_keys m keep) (λ q.
    fin.get-retain_keys (fin.remove m id) keep q (alike_keys keep q)
    ∙ ap (λ found. cond (keep q) found None) (fin.get-remove nat_cmp_total m id q)
    ∙ not_kept q id keep out (eq_by_cmp nat_cmp q id) refl (fin.get m q)
    ∙ sym (fin.get-retain_keys m keep q (alike_keys keep q)))

-- ---- the laws of a difference

same_test : (id k : ℕ) → nat_eq id k ≡ eq_by_cmp nat_cmp id k
same_test id k = by (cases_eq id k)
  where
    by_order : (id ≡ k → ⊥) → (b : Bool) → is_eq (nat_cmp id k) ≡ b → nat_eq id k ≡ b
    by_order apart true same = absurd (apart (nat_cmp-IsAntisymmetric id k (equal (nat_cmp id k) same)))
    by_order apart false other = ne_eqb id k apart

    by : (id ≡ k) ⊎ (id ≡ k → ⊥) → nat_eq id k ≡ eq_by_cmp nat_cmp id k
    by (inl same) = eq-eqb id k same ∙ sym (ap (λ x. is_eq (nat_cmp id x)) (sym same) ∙ ap is_eq (tied_itself nat_cmp_total id))
    by (inr apart) = by_order apart (eq_by_cmp nat_cmp id k) refl

any_same : (id : ℕ) (ks : List ℕ) → list_any (nat_eq id) ks ≡ list_any (eq_by_cmp nat_cmp id) ks
any_same id [] = refl
any_same id (k ∷ ks) = λ i. same_test id k i || any_same id ks i

-- an element of a filtered list passes the test
module _ (test : ℕ → Bool) (id : ℕ) where
  passes_by : (k : ℕ) (rest found : Bool) → found ≡ (rest && test id) → (b : Bool) → test k ≡ b → (c : Bool) → eq_by_cmp nat_cmp id k ≡ c
      → cond b (c || found) found ≡ ((c || rest) && test id)
  passes_by k rest found is b t true same =
      let here : test id ≡ b = ap test (nat_cmp-IsAntisymmetric id k (equal (nat_cmp id k) same)) ∙ t in
      at b here
    where
      at : (b : Bool) → test id ≡ b → cond b true found ≡ test id
      at true here = sym here
      at false here = is ∙ ap (λ x. rest && x) here ∙ neither rest ∙ sym here
        where
          neither : (rest : Bool) → (rest && false) ≡ false
          neither true = refl
          neither false = refl
  passes_by k rest found is true t false same = is
  passes_by k rest found is false t false same = is

  any_passes : (ks : List ℕ) → list_any (eq_by_cmp nat_cmp id) (filter test ks) ≡ (list_any (eq_by_cmp nat_cmp id) ks && test id)
  any_passes [] = refl
  any_passes (k ∷ ks) =
      any_cond (test k) ∙ passes_by k (list_any (eq_by_cmp nat_cmp id) ks) (list_any (eq_by_cmp nat_cmp id) (filter test ks)) (any_passes ks) (test k) refl (eq_by_cmp nat_cmp id k) refl
    where
      any_cond : (b : Bool) → list_any (eq_by_cmp nat_cmp id) (cond b (k ∷ filter test ks) (filter test ks))
          ≡ cond b (eq_by_cmp nat_cmp id k || list_any (eq_by_cmp nat_cmp id) (filter test ks)) (list_any (eq_by_cmp nat_cmp id) (filter test ks))
      any_cond true = refl
      any_cond false = refl

pub removed_are : (base now : Accounts) (id : ℕ)
    → list_any (nat_eq id) (filter (λ k. not (fin.contains_key now k)) (fin.keys base)) ≡ (fin.contains_key base id && not (fin.contains_key now id))
removed_are base now id =
    let absent : ℕ → Bool = λ k. not (fin.contains_key now k) in
    any_same id (filter absent (fin.keys base)) ∙ any_passes absent id (fin.keys base)
    ∙ ap (λ b. b && absent id) (sym (fin.contains_key-keys base id))

if_turned : (b : Bool) (found : Option Account) → cond (not b) found None ≡ cond b None found
if_turned true found = refl
if_turned false found = refl

pub added_are : (base now : Accounts) (id : ℕ) → fin.get (fin.retain_keys now (λ k. not (fin.contains_key base k))) id ≡ cond (fin.contains_key base id) None (fin.get now id)
added_are base now id =
    let missing : ℕ → Bool = λ k. not (fin.contains_key base k) in
    fin.get-retain_keys now missing id (alike_keys missing id) ∙ if_turned (fin.contains_key base id) (fin.get now id)
