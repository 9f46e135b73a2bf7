-- Numbers for new services: places along the ring, and the first that is free.
use Rattle.std.proofs.Common.{◌≡◌, ◌≢◌, ℕ, zero, suc, ◌+◌, ◌-◌, ◌<◌, ◌≤◌, Bool, true, false, cond, not, ◌||◌, Option, Some, None, is_some, unwrap_or, refl, sym, ap, subst, ◌∙◌, arith, inl, inr, nat_lt, lt-ltb, le-ltb, zero-add, ◌⊎◌}
use Rattle.std.specs.Prelude.{T, if◌then◌else◌}
use Rattle.std.proofs.lemmas.Bool.{cases_lt}
use Rattle.std.specs.Ordering.{nat_cmp, is_eq, eq_by_cmp}
use Rattle.std.specs.declared.cmp.Ordering.TheVariants.{Equal}
use Rattle.std.specs.Cmp.{nat_cmp_total}
use Rattle.std.specs.FinMap as fin
use Rattle.std.specs.FinMap.{nat_cmp-IsAntisymmetric}
use Rattle.jam_accounts.specs.Accounts.{Account}
use Rattle.jam_accounts.specs.PutBackLaws.{equal}
use Rattle.account_context.specs.NewIds.{IsInRing, ring_size, ring_place}
use Rattle.account_context.specs.Context.{Pair}
use Rattle.account_context.specs.FreeIds.{is_taken, added_accounts, taken_count, max_services, first_free, free_id, IsFirstFree}

-- ---- places along the ring

pub ring_place-in : (id places : ℕ) → IsInRing (ring_place id places)
ring_place-in id places = record { low = omega arith; high = omega arith }

-- each number of the ring is at the place 0 from itself
pub ring_place-zero : (id : ℕ) → IsInRing id → ring_place id 0 ≡ id
ring_place-zero id within = omega (arith, within.low, within.high)

-- places less than a whole turn apart are different numbers
pub ring_places_differ : (id i j : ℕ) → i < j → j < ring_size → ring_place id i ≢ ring_place id j
ring_places_differ id i j less within same = omega (arith, less, within, same)

-- ---- the first number that is free

true_not_false : {P : Type 0} (b : Bool) → b ≡ true → b ≡ false → P
true_not_false b so otherwise = absurd (subst T (sym (sym otherwise ∙ so)) tt)

some_not_none : {A P : Type 0} (x : A) → Some x ≡ None → P
some_not_none x same = absurd (subst T (ap is_some same) tt)

same_some : (x y : ℕ) → Some x ≡ Some y → x ≡ y
same_some x y same = ap (λ o. unwrap_or o x) same

record Found (taken : ℕ → Bool) (candidate count places id : ℕ) : Type 0 where
  more : ℕ
  within : more < count
  stands : ring_place candidate (places + more) ≡ id
  free : taken id ≡ false
  earlier : (k : ℕ) → k < more → taken (ring_place candidate (places + k)) ≡ true

module _ (taken : ℕ → Bool) (candidate : ℕ) where
  here : ℕ → ℕ
  here places = ring_place candidate places

  one_place : (count rest places : ℕ) (b : Bool) → count ≡ suc rest → taken (ring_place candidate places) ≡ b
      → first_free taken candidate count places ≡ (if b then first_free taken candidate rest (places + 1) else Some (ring_place candidate places))
  unfolding first_free
  one_place count rest places b is there =
      ap (λ n. first_free taken candidate n places) is ∙ ap (λ t. if t then first_free taken candidate rest (places + 1) else Some (ring_place candidate places)) there

  no_place : (places : ℕ) → first_free taken candidate 0 places ≡ None
  unfolding first_free
  no_place places = refl

  found_later : (count places id : ℕ) → taken (ring_place candidate places) ≡ true → Found taken candidate count (places + 1) id → Found taken candidate (suc count) places id
  found_later count places id first rest =
      let next : (k : ℕ) → (places + 1) + k ≡ places + suc k = λ k. omega arith in
      record {
        more = suc rest.more;
        within = omega (arith, rest.within);
        stands = ap (ring_place candidate) (sym (next rest.more)) ∙ rest.stands;
        free = rest.free;
        earlier = earlier_ones rest;
      }
    where
      zeroth : places + 0 ≡ places
      zeroth = omega arith

      earlier_ones : (rest : Found taken candidate count (places + 1) id) (k : ℕ) → k < suc rest.more → taken (ring_place candidate (places + k)) ≡ true
      earlier_ones rest zero less = ap (λ n. taken (ring_place candidate n)) zeroth ∙ first
      earlier_ones rest (suc k) less =
          let next : places + suc k ≡ (places + 1) + k = omega arith in
          ap (λ n. taken (ring_place candidate n)) next ∙ rest.earlier k (omega (arith, less))

  found_by : (count places id : ℕ) → (first_free taken candidate count (places + 1) ≡ Some id → Found taken candidate count (places + 1) id)
      → (b : Bool) → taken (ring_place candidate places) ≡ b
      → (if b then first_free taken candidate count (places + 1) else Some (ring_place candidate places)) ≡ Some id → Found taken candidate (suc count) places id
  found_by count places id rest true first is = found_later count places id first (rest is)
  found_by count places id rest false first is =
      let zeroth : places + 0 ≡ places = omega arith in
      let same : ring_place candidate places ≡ id = same_some (ring_place candidate places) id is in
      record {
        more = 0;
        within = omega arith;
        stands = ap (ring_place candidate) zeroth ∙ same;
        free = ap taken (sym same) ∙ first;
        earlier = λ k less. absurd (omega (arith, less));
      }

  found : (count places id : ℕ) → first_free taken candidate count places ≡ Some id → Found taken candidate count places id
  unfolding first_free
  found zero places id is = some_not_none id (sym is)
  found (suc count) places id is = found_by count places id (found count (places + 1) id) (taken (ring_place candidate places)) refl is

  -- where none is found, all are taken
  all_taken_by : (count places : ℕ) → (first_free taken candidate count (places + 1) ≡ None → (k : ℕ) → k < count → taken (ring_place candidate ((places + 1) + k)) ≡ true)
      → (b : Bool) → taken (ring_place candidate places) ≡ b
      → (if b then first_free taken candidate count (places + 1) else Some (ring_place candidate places)) ≡ None
      → (k : ℕ) → k < suc count → taken (ring_place candidate (places + k)) ≡ true
  all_taken_by count places rest true first is zero less =
      let zeroth : places + 0 ≡ places = omega arith in
      ap (λ n. taken (ring_place candidate n)) zeroth ∙ first
  all_taken_by count places rest true first is (suc k) less =
      let next : places + suc k ≡ (places + 1) + k = omega arith in
      ap (λ n. taken (ring_place candidate n)) next ∙ rest is k (omega (arith, less))
  all_taken_by count places rest false first is k less = some_not_none (ring_place candidate places) is

  all_taken : (count places : ℕ) → first_free taken candidate count places ≡ None → (k : ℕ) → k < count → taken (ring_place candidate (places + k)) ≡ true
  unfolding first_free
  all_taken zero places is k less = absurd (omega (arith, less))
  all_taken (suc count) places is k less = all_taken_by count places (all_taken count (places + 1)) (taken (ring_place candidate places)) refl is k less

  -- one place further, from here on or past the end
  pub first_free-more : (count places : ℕ) → places < count → taken (ring_place candidate places) ≡ true → first_free taken candidate (count - places) places ≡ first_free taken candidate (count - (places + 1)) (places + 1)
  first_free-more count places within there = one_place (count - places) (count - (places + 1)) places true (omega (arith, within)) there

  pub first_free-here : (count places : ℕ) → places < count → taken (ring_place candidate places) ≡ false → first_free taken candidate (count - places) places ≡ Some (ring_place candidate places)
  first_free-here count places within free = one_place (count - places) (count - (places + 1)) places false (omega (arith, within)) free

  pub first_free-past : (count places : ℕ) → count ≤ places → first_free taken candidate (count - places) places ≡ None
  first_free-past count places past = let nothing : count - places ≡ 0 = omega (arith, past) in ap (λ n. first_free taken candidate n places) nothing ∙ no_place places

  pub first_free-all : (count : ℕ) → first_free taken candidate (count - 0) 0 ≡ first_free taken candidate count 0
  first_free-all count = let all : count - 0 ≡ count = omega arith in ap (λ n. first_free taken candidate n 0) all

-- ---- different keys of two maps are no more than both have

contained : {X : Type 0} (m : fin.FinMap nat_cmp X) (k : ℕ) (n : ℕ) → fin.len m ≡ n → fin.contains_key m k ≡ true → 0 < n
contained {X} m k zero empty there =
    true_not_false (fin.contains_key m k) there (ap (λ e. fin.contains_key e k) (fin.empty_of_len m empty) ∙ ap is_some (fin.get-empty {X = X} nat_cmp k))
contained m k (suc n) empty there = omega arith

by_key : (b : Bool) (n removed : ℕ) → (b ≡ true → 0 < n) → removed ≡ cond b (n - 1) n → removed + cond b 1 0 ≡ n
by_key true n removed some is = omega (arith, some refl, is)
by_key false n removed some is = omega (arith, is)

len_without : {X : Type 0} (m : fin.FinMap nat_cmp X) (k : ℕ) → fin.len (fin.remove m k) + cond (fin.contains_key m k) 1 0 ≡ fin.len m
len_without m k = by_key (fin.contains_key m k) (fin.len m) (fin.len (fin.remove m k)) (contained m k (fin.len m) refl) (fin.len-remove nat_cmp_total m k)

apart_keys : (q k : ℕ) → q ≢ k → (b : Bool) → is_eq (nat_cmp q k) ≡ b → b ≡ false
apart_keys q k apart true same = absurd (apart (nat_cmp-IsAntisymmetric q k (equal (nat_cmp q k) same)))
apart_keys q k apart false same = refl

kept_key : {X : Type 0} (m : fin.FinMap nat_cmp X) (k q : ℕ) → q ≢ k → fin.contains_key (fin.remove m k) q ≡ fin.contains_key m q
kept_key m k q apart = ap is_some (fin.get-remove nat_cmp_total m k q ∙ ap (λ b. cond b None (fin.get m q)) (apart_keys q k apart (eq_by_cmp nat_cmp q k) refl))

one_less : (a b : Bool) (n left right l r : ℕ) → (a || b) ≡ true → left + cond a 1 0 ≡ l → right + cond b 1 0 ≡ r → n ≤ left + right → suc n ≤ l + r
one_less true b n left right l r some p q h = more b q
  where
    more : (b : Bool) → right + cond b 1 0 ≡ r → suc n ≤ l + r
    more true q = omega (arith, p, q, h)
    more false q = omega (arith, p, q, h)
one_less false true n left right l r some p q h = omega (arith, p, q, h)
one_less false false n left right l r some p q h = absurd (subst T (sym some) tt)

pigeonhole : {X Y : Type 0} (n : ℕ) (key : ℕ → ℕ) (m : fin.FinMap nat_cmp X) (o : fin.FinMap nat_cmp Y)
    → ((i j : ℕ) → i < j → j < n → key i ≢ key j) → ((i : ℕ) → i < n → (fin.contains_key m (key i) || fin.contains_key o (key i)) ≡ true) → n ≤ fin.len m + fin.len o
pigeonhole zero key m o apart there = omega arith
pigeonhole (suc n) key m o apart there =
    one_less (fin.contains_key m (key n)) (fin.contains_key o (key n)) n (fin.len (fin.remove m (key n))) (fin.len (fin.remove o (key n))) (fin.len m) (fin.len o)
    (there n (omega arith)) (len_without m (key n)) (len_without o (key n))
    (pigeonhole n key (fin.remove m (key n)) (fin.remove o (key n)) (λ i j less within. apart i j less (omega (arith, within)))
    (λ i within. (λ t. kept_key m (key n) (key i) (apart i n within (omega arith)) t || kept_key o (key n) (key i) (apart i n within (omega arith)) t) ∙ there i (omega (arith, within))))

-- ---- the number for the next new service

alike : (keep : ℕ → Bool) (q x : ℕ) → nat_cmp q x ≡ Equal → keep x ≡ keep q
alike keep q x same = ap keep (sym (nat_cmp-IsAntisymmetric q x same))

-- what is taken was there at the start, or was added
taken_by : (a b : Bool) (found : Option Account) → is_some found ≡ b → (a || b) ≡ true → (a || is_some (cond (not a) found None)) ≡ true
taken_by true b found is there = refl
taken_by false b found is there = is ∙ there

taken_added : (pair : Pair) (id : ℕ) → is_taken pair id ≡ true → (fin.contains_key pair.base id || fin.contains_key (added_accounts pair) id) ≡ true
taken_added pair id there =
    let missing : ℕ → Bool = λ k. not (fin.contains_key pair.base k) in
    ap (λ found. fin.contains_key pair.base id || is_some found) (fin.get-retain_keys pair.now.accounts missing id (alike missing id))
    ∙ taken_by (fin.contains_key pair.base id) (fin.contains_key pair.now.accounts id) (fin.get pair.now.accounts id) refl there

-- a number is free where fewer are taken than the ring has
pub free_in_ring : (pair : Pair) → taken_count pair < ring_size → first_free (is_taken pair) pair.now.candidate ring_size 0 ≢ None
free_in_ring pair few none =
    let every : (k : ℕ) → k < ring_size → is_taken pair (ring_place pair.now.candidate k) ≡ true =
    λ k within. ap (λ n. is_taken pair (ring_place pair.now.candidate n)) (sym (zero-add k)) ∙ all_taken (is_taken pair) pair.now.candidate ring_size 0 none k within in
    let many : ring_size ≤ taken_count pair =
    pigeonhole ring_size (ring_place pair.now.candidate) pair.base (added_accounts pair) (ring_places_differ pair.now.candidate) (λ k within. taken_added pair (ring_place pair.now.candidate k) (every k within)) in
    omega (arith, few, many)

first_in : (pair : Pair) (id : ℕ) → Found (is_taken pair) pair.now.candidate ring_size 0 id → IsFirstFree pair id
first_in pair id found = record {
  places = found.more;
  within = found.within;
  stands = ap (ring_place pair.now.candidate) (sym (zero-add found.more)) ∙ found.stands;
  free = found.free;
  earlier = λ k less. ap (λ n. is_taken pair (ring_place pair.now.candidate n)) (sym (zero-add k)) ∙ found.earlier k less;
}

first_by : (pair : Pair) (id : ℕ) (b : Bool) → (if b then first_free (is_taken pair) pair.now.candidate ring_size 0 else None) ≡ Some id → IsFirstFree pair id
first_by pair id true is = first_in pair id (found (is_taken pair) pair.now.candidate ring_size 0 id is)
first_by pair id false is = some_not_none id (sym is)

-- where there is a number for the next new service, it is the first one that is free
pub free_id-first : (pair : Pair) (id : ℕ) → free_id pair ≡ Some id → IsFirstFree pair id
unfolding free_id
free_id-first pair id is = first_by pair id (nat_lt (taken_count pair) max_services) is

pub free_id-in_ring : (pair : Pair) (id : ℕ) → free_id pair ≡ Some id → IsInRing id
free_id-in_ring pair id is =
    let first : IsFirstFree pair id = free_id-first pair id is in
    subst IsInRing first.stands (ring_place-in pair.now.candidate first.places)

pub free_id-none : (pair : Pair) → max_services ≤ taken_count pair → free_id pair ≡ None
unfolding free_id
free_id-none pair many = ap (λ b. if b then first_free (is_taken pair) pair.now.candidate ring_size 0 else None) (le-ltb (taken_count pair) max_services many)

none_by : (pair : Pair) → (taken_count pair < max_services) ⊎ (max_services ≤ taken_count pair) → free_id pair ≡ None → max_services ≤ taken_count pair
unfolding free_id
none_by pair (inl few) none =
    absurd (free_in_ring pair (omega (arith, few)) (sym (ap (λ b. if b then first_free (is_taken pair) pair.now.candidate ring_size 0 else None) (lt-ltb (taken_count pair) max_services few)) ∙ none))
none_by pair (inr many) none = many

-- there is none only where too many are taken
pub free_id-only_none : (pair : Pair) → free_id pair ≡ None → max_services ≤ taken_count pair
free_id-only_none pair none = none_by pair (cases_lt (taken_count pair) max_services) none

-- where few are taken, it is the first of the whole ring
pub free_id-few : (pair : Pair) → taken_count pair < max_services → free_id pair ≡ first_free (is_taken pair) pair.now.candidate ring_size 0
unfolding free_id
free_id-few pair few = ap (λ b. if b then first_free (is_taken pair) pair.now.candidate ring_size 0 else None) (lt-ltb (taken_count pair) max_services few)
