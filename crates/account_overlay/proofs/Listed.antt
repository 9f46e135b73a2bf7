-- Accounts one after another: which are not there now, those left without them, and a table of what each takes up.
use Rattle.std.proofs.Common.{◌≡◌, ℕ, Bool, true, false, cond, not, ◌||◌, List, [], ◌∷◌, ◌++◌, map, Option, Some, None, option_map, refl, sym, ap, ◌∙◌, append_assoc, append-nil}
use Rattle.std.specs.List.{filter, list_any, AllByRecursion}
use Rattle.std.specs.List.Sorted.{IsStrictlySortedBy}
use Rattle.std.specs.Ordering.{nat_cmp, is_eq, eq_by_cmp}
use Rattle.std.specs.declared.cmp.Ordering.TheVariants.{Less}
use Rattle.std.specs.Cmp.{nat_cmp_total, tied_itself}
use Rattle.std.specs.BTreeMap.{is_at}
use Rattle.std.specs.Map.{keys_of}
use Rattle.std.specs.FinMap as fin
use Rattle.std.specs.FinMap.{nat_cmp-IsAntisymmetric}
use Rattle.jam_accounts.specs.Accounts.{Account, Accounts}
use Rattle.jam_accounts.specs.Footprint.{Footprint, footprint_of}
use Rattle.jam_accounts.specs.PutBackLaws.{equal}
use Rattle.jam_accounts.specs.SumLaws.{sorted_keys}
use Rattle.account_overlay.specs.Others.{added_in}

-- ---- listed

module _ (absent : ℕ → Bool) where
  pub listed : List (ℕ × Account) → List ℕ
  listed entries = filter absent (map (λ e. e.0) entries)

  pub listed-none : (entries : List (ℕ × Account)) → entries ≡ [] → listed entries ≡ []
  unfolding listed
  listed-none entries none = ap (λ es. filter absent (map (λ e. e.0) es)) none

  listed-one : (entries rest : List (ℕ × Account)) (id : ℕ) (account : Account) → entries ≡ (id, account) ∷ rest → listed entries ≡ cond (absent id) (id ∷ listed rest) (listed rest)
  unfolding listed
  listed-one entries rest id account is = ap (λ es. filter absent (map (λ e. e.0) es)) is

  listed-all : (m : Accounts) → listed (fin.entries m) ≡ filter absent (fin.keys m)
  unfolding listed
  listed-all m = refl

  module _ (entries rest : List (ℕ × Account)) (id : ℕ) (account : Account) (steps : entries ≡ (id, account) ∷ rest) (before total : List ℕ) where
    pub listed_more : (after : List ℕ) → after ≡ before ++ id ∷ [] → absent id ≡ true → before ++ listed entries ≡ total → after ++ listed rest ≡ total
    listed_more after pushed here all =
        ap (λ ids. ids ++ listed rest) pushed ∙ append_assoc before (id ∷ []) (listed rest)
        ∙ ap (λ ids. before ++ ids) (sym (listed-one entries rest id account steps ∙ ap (λ b. cond b (id ∷ listed rest) (listed rest)) here)) ∙ all

    pub listed_past : absent id ≡ false → before ++ listed entries ≡ total → before ++ listed rest ≡ total
    listed_past here all = ap (λ ids. before ++ ids) (sym (listed-one entries rest id account steps ∙ ap (λ b. cond b (id ∷ listed rest) (listed rest)) here)) ∙ all

  pub listed_all : (left : List (ℕ × Account)) (m : Accounts) (ids : List ℕ) → left ≡ [] → ids ++ listed left ≡ listed (fin.entries m) → ids ≡ filter absent (fin.keys m)
  listed_all left m ids none all = sym (append-nil ids) ∙ ap (λ more. ids ++ more) (sym (listed-none left none)) ∙ all ∙ listed-all m

-- ---- left without each

pub without_each : List (ℕ × Account) → Accounts → Accounts
without_each [] m = m
without_each (e ∷ es) m = without_each es (fin.remove m e.0)

pub without_each-none : (entries : List (ℕ × Account)) (m : Accounts) → entries ≡ [] → without_each entries m ≡ m
unfolding without_each
without_each-none entries m none = ap (λ es. without_each es m) none

without_each-one : (entries rest : List (ℕ × Account)) (id : ℕ) (account : Account) (m : Accounts) → entries ≡ (id, account) ∷ rest → without_each entries m ≡ without_each rest (fin.remove m id)
unfolding without_each
without_each-one entries rest id account m is = ap (λ es. without_each es m) is

pub without_each-more : (entries rest : List (ℕ × Account)) (id : ℕ) (account : Account) (m after all : Accounts) → entries ≡ (id, account) ∷ rest → after ≡ fin.remove m id → without_each entries m ≡ all → without_each rest after ≡ all
without_each-more entries rest id account m after all steps removed so_far = ap (without_each rest) removed ∙ sym (without_each-one entries rest id account m steps) ∙ so_far

among : ℕ → List (ℕ × Account) → Bool
among q es = list_any (eq_by_cmp nat_cmp q) (map (λ e. e.0) es)

removed_or : (b c : Bool) (found : Option Account) → cond c None (cond b None found) ≡ cond (b || c) None found
removed_or true true found = refl
removed_or true false found = refl
removed_or false c found = refl

get-without_each : (es : List (ℕ × Account)) (m : Accounts) (q : ℕ) → fin.get (without_each es m) q ≡ cond (among q es) None (fin.get m q)
unfolding without_each among
get-without_each [] m q = refl
get-without_each (e ∷ es) m q =
    get-without_each es (fin.remove m e.0) q ∙ ap (λ found. cond (among q es) None found) (fin.get-remove nat_cmp_total m e.0 q)
    ∙ removed_or (eq_by_cmp nat_cmp q e.0) (among q es) (fin.get m q)

turned : (b : Bool) (found : Option Account) → cond b None found ≡ cond (not b) found None
turned true found = refl
turned false found = refl

-- without each that there was at the start: those that were added
pub without_each-all : (base m : Accounts) → without_each (fin.entries base) m ≡ added_in base m
unfolding among
without_each-all base m =
    let missing : ℕ → Bool = λ id. not (fin.contains_key base id) in
    fin.same_map nat_cmp_total nat_cmp-IsAntisymmetric (without_each (fin.entries base) m) (added_in base m) (λ q.
    get-without_each (fin.entries base) m q
    ∙ ap (λ b. cond b None (fin.get m q)) (sym (fin.contains_key-keys base q))
    ∙ turned (fin.contains_key base q) (fin.get m q)
    ∙ sym (fin.get-retain_keys m missing q (λ x same. ap missing (sym (nat_cmp-IsAntisymmetric q x same)))))

-- ---- a table of what each takes up

-- what the table says of an account, once it has what these take up
pub tabled : ℕ → List (ℕ × Account) → Option Footprint → Option Footprint
tabled q [] found = found
tabled q (e ∷ es) found = tabled q es (cond (is_at (nat_cmp e.0) q) (Some (footprint_of e.1)) found)

pub tabled-none : (q : ℕ) (entries : List (ℕ × Account)) (found : Option Footprint) → entries ≡ [] → tabled q entries found ≡ found
unfolding tabled
tabled-none q entries found none = ap (λ es. tabled q es found) none

pub tabled-one : (q : ℕ) (entries rest : List (ℕ × Account)) (id : ℕ) (account : Account) (found : Option Footprint) → entries ≡ (id, account) ∷ rest
    → tabled q rest (cond (is_at (nat_cmp id) q) (Some (footprint_of account)) found) ≡ tabled q entries found
unfolding tabled
tabled-one q entries rest id account found is = ap (λ es. tabled q es found) (sym is)

or_else : Option Account → Option Footprint → Option Footprint
or_else None found = found
or_else (Some account) found = Some (footprint_of account)

find_above : (q : ℕ) (es : List (ℕ × Account)) → AllByRecursion (λ y. nat_cmp q y ≡ Less) (keys_of es) → fin.find nat_cmp q es ≡ None
find_above q [] h = refl
find_above q (e ∷ es) h = ap (λ r. cond (is_eq r) (Some e.1) (fin.find nat_cmp q es)) h.0 ∙ find_above q es h.1

-- the table is asked with the key on either side
turned_test : (q k : ℕ) (b : Bool) → is_eq (nat_cmp q k) ≡ b → (c : Bool) → is_eq (nat_cmp k q) ≡ c → c ≡ b
turned_test q k true same c is = sym is ∙ ap (λ x. is_eq (nat_cmp k x)) (nat_cmp-IsAntisymmetric q k (equal (nat_cmp q k) same)) ∙ ap is_eq (tied_itself nat_cmp_total k)
turned_test q k false apart true is =
    sym (sym apart ∙ ap (λ x. is_eq (nat_cmp q x)) (nat_cmp-IsAntisymmetric k q (equal (nat_cmp k q) is)) ∙ ap is_eq (tied_itself nat_cmp_total q))
turned_test q k false apart false is = refl

module _ (q : ℕ) where
  first_or : (e : ℕ × Account) (es : List (ℕ × Account)) (found : Option Footprint) → AllByRecursion (λ y. nat_cmp e.0 y ≡ Less) (keys_of es) → (b : Bool) → eq_by_cmp nat_cmp q e.0 ≡ b
      → or_else (fin.find nat_cmp q es) (cond b (Some (footprint_of e.1)) found) ≡ or_else (cond b (Some e.1) (fin.find nat_cmp q es)) found
  unfolding or_else
  first_or e es found above true same =
      ap (λ f. or_else f (Some (footprint_of e.1))) (ap (λ k. fin.find nat_cmp k es) (nat_cmp-IsAntisymmetric q e.0 (equal (nat_cmp q e.0) same)) ∙ find_above e.0 es above)
  first_or e es found above false apart = refl

  tabled-sorted : (es : List (ℕ × Account)) (found : Option Footprint) → IsStrictlySortedBy nat_cmp (keys_of es) → tabled q es found ≡ or_else (fin.find nat_cmp q es) found
  unfolding tabled or_else IsStrictlySortedBy
  tabled-sorted [] found sorted = refl
  tabled-sorted (e ∷ es) found sorted =
      ap (λ b. tabled q es (cond b (Some (footprint_of e.1)) found)) (turned_test q e.0 (eq_by_cmp nat_cmp q e.0) refl (is_at (nat_cmp e.0) q) refl)
      ∙ tabled-sorted es (cond (eq_by_cmp nat_cmp q e.0) (Some (footprint_of e.1)) found) sorted.1
      ∙ first_or e es found sorted.0 (eq_by_cmp nat_cmp q e.0) refl

  of_none : (found : Option Account) → or_else found None ≡ option_map footprint_of found
  unfolding or_else
  of_none None = refl
  of_none (Some account) = refl

  pub tabled-all : (m : Accounts) → tabled q (fin.entries m) None ≡ option_map footprint_of (fin.get m q)
  tabled-all m = tabled-sorted (fin.entries m) None (sorted_keys nat_cmp (fin.entries m) (fin.entries_sorted m)) ∙ of_none (fin.find nat_cmp q (fin.entries m)) ∙ ap (option_map footprint_of) (sym (fin.get-entries m q))
