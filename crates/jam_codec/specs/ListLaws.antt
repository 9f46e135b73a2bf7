-- The laws of blobs, lists, maps and values that may be absent.
use Rattle.std.proofs.Common.{◌≡◌, ℕ, zero, suc, ◌^◌, ◌<◌, ◌≤◌, Bool, true, false, ◌&&◌, ◌==◌, List, [], ◌∷◌, ◌++◌, length, length-append, refl, sym, ap, ◌∙◌, subst, arith, Option, Some, None, Ok, Err, nat_lt, nat_le, if◌then◌else◌}
use Rattle.std.specs.Prelude.{T}
use Rattle.std.specs.Option.{option_map, is_some}
use Rattle.std.specs.declared.cmp.Ordering.{Ordering}
use Rattle.std.specs.declared.cmp.Ordering.TheVariants.{Less, Equal, Greater}
use Rattle.std.specs.Ordering.{nat_cmp, is_lt}
use Rattle.std.specs.Cmp.{IsTotalOrder}
use Rattle.std.specs.Cmp.Lexicographic.{slice_cmp}
use Rattle.std.specs.FinMap as fin
use Rattle.std.specs.FinMap.Entries.{below_all, is_sorted}
use Rattle.std.proofs.lemmas.Cmp.{nat_cmp_total, nat_list_cmp_total, on_total, then_total}
use Rattle.std.proofs.lemmas.Bool.{leb-true, lt-leb}
use Rattle.std.proofs.lemmas.Bool.Decides.{nat_tests}
use Rattle.byte_numbers.specs.Numbers.{little_endian}
use Rattle.byte_numbers.specs.NumberLaws.{length-little_endian}
use Rattle.jam_codec.specs.Reading.{Reading, Takes, natural_at, bytes_at, fixed_at}
use Rattle.jam_codec.specs.Format.{Format, any, both, times, natural_where, fixed_where, bytes_where, items_fit}
use Rattle.jam_codec.specs.Lists.{blob_where, list_of, map_entry, map_of, fin_map_of, follows, blob_after, blob_by_after, number_after, hash_and_number_cmp, is_hash_from, hash_and_number_after, nothing, option_tag, some_of, if_present, option_of, behind_one}
use Rattle.jam_codec.specs.Laws.{IsFormat}
use Rattle.jam_codec.specs.JoinLaws.{ok_parts, read_here, both_laws, same_laws, by_laws, times_laws, length-items}
use Rattle.jam_codec.specs.FieldLaws.{natural_laws, fixed_laws, bytes_laws}

-- where nothing is read, nothing is spelled
pub none_spelled : {A : Type 0} → (f : Format A) → IsFormat f → (r : Reading) (place : ℕ) → f.read r ≡ Err place → (x : A) (tail : List ℕ) → f.Fits x → r.rest ≡ f.spell x ++ tail → ⊥
none_spelled f F r place refused x tail h e = cc (sym refused ∙ read_here f.Fits f.spell f.read F.code r x tail h e)

pub blob_laws : (test : List ℕ → Bool) → IsFormat (blob_where test)
blob_laws test =
    by_laws (λ p. p.1) (λ bytes. (length bytes, bytes)) (both (natural_where any) (λ n. bytes_where n test))
    (both_laws (natural_where any) (λ n. bytes_where n test) (natural_laws any) (λ n. bytes_laws n test))
    (λ p h. ap (λ (n : ℕ). (n, p.1)) h.1.0)
    (λ bytes h. refl)

module _ {A : Type 0} (test : ℕ → Bool) (g : Option A → Format A) (G : (last : Option A) → IsFormat (g last)) where
  pub list_laws : IsFormat (list_of test g)
  list_laws =
      by_laws (λ p. p.1) (λ xs. (length xs, xs)) (both (natural_where test) (times g))
      (both_laws (natural_where test) (times g) (natural_laws test) (times_laws g G))
      (λ p h. ap (λ (n : ℕ). (n, p.1)) (length-items g p.0 None p.1 h.1))
      (λ xs h. refl)

module _ {K V : Type 0} (key : Option K → Format K) (value : Format V) (Key : (last : Option K) → IsFormat (key last)) (Value : IsFormat value) where
  pub entry_laws : (last : Option (K × V)) → IsFormat (map_entry key value last)
  entry_laws last = both_laws (key (option_map (λ entry. entry.0) last)) (λ k. value) (Key (option_map (λ entry. entry.0) last)) (λ k. Value)

  pub map_laws : IsFormat (map_of key value)
  map_laws = list_laws any (map_entry key value) entry_laws

-- keys that ascend
pub blob_after_laws : (last : Option (List ℕ)) → IsFormat (blob_after last)
blob_after_laws last = blob_laws (follows (slice_cmp nat_cmp) last)

pub blob_by_after_laws : (digest : List ℕ → List ℕ) (last : Option (List ℕ)) → IsFormat (blob_by_after digest last)
blob_by_after_laws digest last = blob_laws (λ bytes. follows (slice_cmp nat_cmp) (option_map digest last) (digest bytes))

pub number_after_laws : (n : ℕ) (last : Option ℕ) → IsFormat (number_after n last)
number_after_laws n last = fixed_laws n (follows nat_cmp last)

pub hash_and_number_laws : (last : Option (List ℕ × ℕ)) → IsFormat (hash_and_number_after last)
hash_and_number_laws last =
    both_laws (bytes_where 32 (is_hash_from last)) (λ hash. fixed_where 4 (λ n. follows hash_and_number_cmp last (hash, n)))
    (bytes_laws 32 (is_hash_from last)) (λ hash. fixed_laws 4 (λ n. follows hash_and_number_cmp last (hash, n)))

pub less_from : (order : Ordering) → is_lt order ≡ true → order ≡ Less
less_from Less e = refl
less_from Equal e = absurd (cc e)
less_from Greater e = absurd (cc e)

-- each key is above the one before it
abbrev pub Rises : {K : Type 0} → (K → K → Ordering) → (Option K → Format K) → Type 0
Rises {K} R key = (last k : K) → (key (Some last)).Fits k → R last k ≡ Less

pub blob_rises : Rises (slice_cmp nat_cmp) blob_after
blob_rises last k h = less_from (slice_cmp nat_cmp last k) h.1.1

pub blob_by_rises : (digest : List ℕ → List ℕ) → Rises (λ a b. slice_cmp nat_cmp (digest a) (digest b)) (blob_by_after digest)
blob_by_rises digest last k h = less_from (slice_cmp nat_cmp (digest last) (digest k)) h.1.1

pub number_rises : (n : ℕ) → Rises nat_cmp (number_after n)
number_rises n last k h = less_from (nat_cmp last k) h.1

pub hash_and_number_rises : Rises hash_and_number_cmp hash_and_number_after
hash_and_number_rises last k h = less_from (hash_and_number_cmp last k) h.1.1

pub hash_and_number_total : IsTotalOrder hash_and_number_cmp
hash_and_number_total = then_total (on_total (λ p. p.0) nat_list_cmp_total) (on_total (λ p. p.1) nat_cmp_total)

-- no field
pub nothing_laws : {A : Type 0} → (x : A) → IsFormat (nothing x)
nothing_laws {A} x = record {
  code = record {
    again = λ place y rest h. rw h (ap (λ (n : ℕ). Ok (x, record { place = n; rest = rest })) (omega arith));
    found = λ r y s b e.
        let parts : (x ≡ y) × (r ≡ s) = ok_parts x y r s e in
        (sym parts.0, subst (λ (t : Reading). Takes r [] t) parts.1 (record { place = omega arith; rest = refl }));
  };
  all = λ y h. refl;
  runs = λ y run more rest h is e. rw is (omega arith);
  refused = λ r place b e. absurd (cc e);
}

-- a value that may be absent
tag_of : (tag : ℕ) → tag ≤ 1 → (if nat_lt 0 tag then 1 else 0) ≡ tag
tag_of zero h = refl
tag_of (suc zero) h = refl
tag_of (suc (suc tag)) h = absurd (omega arith)

present_of : (present : Bool) → nat_lt 0 (if present then 1 else 0) ≡ present
present_of true = refl
present_of false = refl

pub option_tag_laws : IsFormat option_tag
option_tag_laws =
    by_laws (λ tag. nat_lt 0 tag) (λ present. if present then 1 else 0) (fixed_where 1 (λ tag. nat_le tag 1)) (fixed_laws 1 (λ tag. nat_le tag 1))
    (λ tag h. tag_of tag (leb-true tag 1 h.1))
    (λ present h. present_of present)

pub option_tag-Fits : (present : Bool) → option_tag.Fits present
option_tag-Fits true = (omega arith, refl)
option_tag-Fits false = (omega arith, refl)

module _ {A : Type 0} (f : Format A) (F : IsFormat f) where
  some_behind : (x : Option A) → (some_of f).Fits x → (a : A) × f.Fits a × ((let o : Option A = Some a in o) ≡ x)
  some_behind None h = absurd h
  some_behind (Some a) h = (a, h, refl)

  some_laws : IsFormat (some_of f)
  some_laws = same_laws (λ a. Some a) f (some_of f) F (record {
    fits = λ a h. (h, refl);
    onto = some_behind;
    run = λ run. (λ h. h, λ h. h);
    reads = λ r. refl;
  })

  if_present_laws : (present : Bool) → IsFormat (if_present f present)
  if_present_laws true = some_laws
  if_present_laws false = nothing_laws None

  tagged : (present : Bool) (x : Option A) → (if_present f present).Fits x → (let p : Bool × Option A = (is_some x, x) in p) ≡ (present, x)
  tagged true None h = absurd h
  tagged true (Some a) h = refl
  tagged false x h = rw h refl

  pub option_laws : IsFormat (option_of f)
  option_laws =
      by_laws (λ p. p.1) (λ x. (is_some x, x)) (both option_tag (if_present f)) (both_laws option_tag (if_present f) option_tag_laws if_present_laws)
      (λ p h. tagged p.0 p.1 h.1)
      (λ x h. refl)

-- a value behind the byte 1
one_is : (tag : ℕ) → (tag == 1) ≡ true → 1 ≡ tag
one_is tag e = grind (arith, nat_tests)

module _ {A : Type 0} (f : Format A) (F : IsFormat f) where
  pub behind_one_laws : IsFormat (behind_one f)
  behind_one_laws =
      by_laws (λ p. p.1) (λ x. (1, x)) (both (fixed_where 1 (λ tag. tag == 1)) (λ tag. f)) (both_laws (fixed_where 1 (λ tag. tag == 1)) (λ tag. f) (fixed_laws 1 (λ tag. tag == 1)) (λ tag. F))
      (λ p h. ap (λ (n : ℕ). (n, p.1)) (one_is p.0 h.0.1))
      (λ x h. refl)

  pub behind_one_some : (x : A) → (behind_one f).Fits x → 0 < length ((behind_one f).spell x)
  behind_one_some x h = omega (arith, length-append (little_endian 1 1) (f.spell x), length-little_endian 1 1)

-- the entries of a map are sorted
pub and_holds : (a b : Bool) → T a → T b → T (a && b)
and_holds true b p q = q
and_holds false b p q = absurd p

pub left_holds : (a b : Bool) → T (a && b) → T a
left_holds true b p = tt
left_holds false b p = absurd p

pub right_holds : (a b : Bool) → T (a && b) → T b
right_holds true b p = p
right_holds false b p = absurd p

pub less_holds : (order : Ordering) → order ≡ Less → T (is_lt order)
less_holds order e = subst (λ (o : Ordering). T (is_lt o)) (sym e) tt

pub holds_less : (order : Ordering) → T (is_lt order) → order ≡ Less
holds_less Less h = refl
holds_less Equal h = absurd h
holds_less Greater h = absurd h

module _ {K V : Type 0} (R : K → K → Ordering) (total : IsTotalOrder R) where
  pub below_lower : (low k : K) (es : List (K × V)) → R low k ≡ Less → T (below_all R k es) → T (below_all R low es)
  below_lower low k [] less h = tt
  below_lower low k (e ∷ es) less h =
      let above : R k e.0 ≡ Less = holds_less (R k e.0) (left_holds (is_lt (R k e.0)) (below_all R k es) h) in
      and_holds (is_lt (R low e.0)) (below_all R low es) (less_holds (R low e.0) (total.trans low k e.0 less above))
      (below_lower low k es less (right_holds (is_lt (R k e.0)) (below_all R k es) h))

  module _ (key : Option K → Format K) (value : Format V) (rises : Rises R key) where
    rest_sorted : (n : ℕ) (last : K × V) (es : List (K × V)) → items_fit (map_entry key value) n (Some last) es → T (below_all R last.0 es) × T (is_sorted R es)
    unfolding items_fit
    rest_sorted n last [] h = (tt, tt)
    rest_sorted zero last (e ∷ es) h = absurd h
    rest_sorted (suc n) last (e ∷ es) h =
        let rest : T (below_all R e.0 es) × T (is_sorted R es) = rest_sorted n e es h.1 in
        let less : R last.0 e.0 ≡ Less = rises last.0 e.0 h.0.0 in (
          and_holds (is_lt (R last.0 e.0)) (below_all R last.0 es) (less_holds (R last.0 e.0) less) (below_lower last.0 e.0 es less rest.0),
          and_holds (below_all R e.0 es) (is_sorted R es) rest.0 rest.1,
        )

    entries_sorted : (n : ℕ) (es : List (K × V)) → items_fit (map_entry key value) n None es → T (is_sorted R es)
    unfolding items_fit
    entries_sorted n [] h = tt
    entries_sorted zero (e ∷ es) h = absurd h
    entries_sorted (suc n) (e ∷ es) h =
        let rest : T (below_all R e.0 es) × T (is_sorted R es) = rest_sorted n e es h.1 in
        and_holds (below_all R e.0 es) (is_sorted R es) rest.0 rest.1

    pub fitting_map_sorted : (es : List (K × V)) → (map_of key value).Fits es → T (is_sorted R es)
    fitting_map_sorted es h = entries_sorted (length es) es h.1

    pub fin_map_laws : ((last : Option K) → IsFormat (key last)) → IsFormat value → IsFormat (fin_map_of R key value)
    fin_map_laws Key Value =
        by_laws (fin.from_sorted {R = R}) fin.entries (map_of key value) (map_laws key value Key Value)
        (λ es h. fin.entries-from_sorted R es (fitting_map_sorted es h))
        (λ m h. fin.same_entries_map (fin.from_sorted {R = R} (fin.entries m)) m (fin.entries-from_sorted R (fin.entries m) (fin.entries_sorted m)))

-- what a refused blob and a refused tag say
pub blob_none : (r : Reading) (place : ℕ) → (blob_where any).read r ≡ Err place → (x tail : List ℕ) → length x < 2 ^ 64 → r.rest ≡ (blob_where any).spell x ++ tail → ⊥
blob_none r place e x tail h is = none_spelled (blob_where any) (blob_laws any) r place e x tail ((h, refl), (refl, refl)) is

pub option_tag_none : (r : Reading) (place : ℕ) → option_tag.read r ≡ Err place → (x : Bool) (tail : List ℕ) → r.rest ≡ option_tag.spell x ++ tail → ⊥
option_tag_none r place e x tail is = none_spelled option_tag option_tag_laws r place e x tail (option_tag-Fits x) is

pub blob_no_body : (r s : Reading) (n place : ℕ) → natural_at r ≡ Ok (n, s) → bytes_at n s ≡ Err place → (blob_where any).read r ≡ Err s.place
blob_no_body r s n place e missing = rw (e, missing) refl

pub no_tag : (r : Reading) (place : ℕ) → fixed_at 1 r ≡ Err place → option_tag.read r ≡ Err r.place
no_tag r place e = rw e refl

pub wrong_tag : (r s : Reading) (tag : ℕ) → fixed_at 1 r ≡ Ok (tag, s) → 1 < tag → option_tag.read r ≡ Err r.place
wrong_tag r s tag e large = rw (e, lt-leb tag 1 large) refl
