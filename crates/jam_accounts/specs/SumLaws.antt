-- Sums over the entries of a finite map, after an insert and after a removal.
use Rattle.std.proofs.Common.{◌≡◌, ℕ, ◌+◌, ◌≤◌, Bool, true, false, cond, List, [], ◌∷◌, Some, None, Option, option_map, unwrap_or, refl, sym, ap, ◌∙◌, Ordering, arith}
use Rattle.std.specs.Prelude.{T}
use Rattle.std.specs.declared.cmp.Ordering.TheVariants.{Less, Equal, Greater}
use Rattle.std.specs.Ordering.{eq_by_cmp, is_eq, is_lt}
use Rattle.std.specs.Cmp.{IsTotalOrder, tied_itself}
use Rattle.std.specs.List.{sum_by, AllByRecursion}
use Rattle.std.specs.List.Sorted.{IsStrictlySortedBy}
use Rattle.std.specs.BTreeMap.{is_at}
use Rattle.std.specs.Map.{lookup, keys_of}
use Rattle.std.specs.FinMap as fin
use Rattle.std.specs.FinMap.{IsAntisymmetric}
use Rattle.std.specs.FinMap.Entries.{put, by_order, below_all, is_sorted}
use Rattle.std.proofs.lemmas.List.Sums.{sum_by-cons}
use Rattle.std.proofs.lemmas.Map.{lookup-none}
use Rattle.std.proofs.lemmas.Map.Keys.{sorted_tail}
use Rattle.std.proofs.lemmas.Map.Entries.{none_below_head}
use Rattle.jam_codec.specs.FormatLaws.{left_holds, right_holds, holds_less}
use Rattle.jam_accounts.specs.Footprint.{weight_at}
use Rattle.jam_accounts.specs.MapLaws.{find_is}
use Rattle.jam_accounts.specs.PutBackLaws.{equal}

module _ {K X : Type 0} (R : K → K → Ordering) where
  below_keys : (k : K) (es : List (K × X)) → T (below_all R k es) → AllByRecursion (λ y. R k y ≡ Less) (keys_of es)
  below_keys k [] h = tt
  below_keys k (e ∷ es) h = (holds_less (R k e.0) (left_holds (is_lt (R k e.0)) (below_all R k es) h), below_keys k es (right_holds (is_lt (R k e.0)) (below_all R k es) h))

  pub sorted_keys : (es : List (K × X)) → T (is_sorted R es) → IsStrictlySortedBy R (keys_of es)
  unfolding IsStrictlySortedBy
  sorted_keys [] h = tt
  sorted_keys (e ∷ es) h = (below_keys e.0 es (left_holds (below_all R e.0 es) (is_sorted R es) h), sorted_keys es (right_holds (below_all R e.0 es) (is_sorted R es) h))

abbrev weighed : {K X : Type 0} → (K × X → ℕ) → K → Option X → ℕ
weighed f k found = unwrap_or (option_map (λ v. f (k, v)) found) 0

sum_later : (a b c d e p q : ℕ) → p ≡ a + c → q ≡ a + d → c + b ≡ d + e → p + b ≡ q + e
sum_later a b c d e p q r s h = omega (arith, r, s, h)

replaced : (new old rest p q : ℕ) → p ≡ new + rest → q ≡ old + rest → p + old ≡ q + new
replaced new old rest p q r s = omega (arith, r, s)

first : (new rest p : ℕ) → p ≡ new + rest → p + 0 ≡ rest + new
first new rest p r = omega (arith, r)

with_nothing : (n : ℕ) → n + 0 ≡ n
with_nothing n = omega arith

module _ {K X : Type 0} {R : K → K → Ordering} (o : IsTotalOrder R) (same : IsAntisymmetric R) (f : K × X → ℕ) where
  -- by how the key compares to the first one
  put_first : (k : K) (v : X) (e : K × X) (es : List (K × X)) → IsStrictlySortedBy R (keys_of (e ∷ es))
      → sum_by f (put R k v es) + weighed f k (lookup (is_at (R k)) es) ≡ sum_by f es + f (k, v)
      → (r : Ordering) → R k e.0 ≡ r
      → sum_by f (by_order r ((k, v) ∷ e ∷ es) ((e.0, v) ∷ es) (e ∷ put R k v es)) + weighed f k (cond (is_eq r) (Some e.1) (lookup (is_at (R k)) es)) ≡ sum_by f (e ∷ es) + f (k, v)
  put_first k v e es s h Less t =
      ap (λ found. sum_by f ((k, v) ∷ e ∷ es) + weighed f k found)
      (ap (λ r. cond (is_eq r) (Some e.1) (lookup (is_at (R k)) es)) (sym t) ∙ lookup-none (is_at (R k)) (e ∷ es) (none_below_head o k e es s t))
      ∙ first (f (k, v)) (sum_by f (e ∷ es)) (sum_by f ((k, v) ∷ e ∷ es)) (sum_by-cons f (k, v) (e ∷ es))
  put_first k v e es s h Equal t =
      let here : k ≡ e.0 = same k e.0 t in
      ap (λ (q : K). sum_by f ((e.0, v) ∷ es) + f (q, e.1)) here
      ∙ replaced (f (e.0, v)) (f e) (sum_by f es) (sum_by f ((e.0, v) ∷ es)) (sum_by f (e ∷ es)) (sum_by-cons f (e.0, v) es) (sum_by-cons f e es)
      ∙ ap (λ (q : K). sum_by f (e ∷ es) + f (q, v)) (sym here)
  put_first k v e es s h Greater t =
      sum_later (f e) (weighed f k (lookup (is_at (R k)) es)) (sum_by f (put R k v es)) (sum_by f es) (f (k, v)) (sum_by f (e ∷ put R k v es)) (sum_by f (e ∷ es))
      (sum_by-cons f e (put R k v es)) (sum_by-cons f e es) h

  sum_by-put : (k : K) (v : X) (es : List (K × X)) → IsStrictlySortedBy R (keys_of es) → sum_by f (put R k v es) + weighed f k (lookup (is_at (R k)) es) ≡ sum_by f es + f (k, v)
  sum_by-put k v [] s = first (f (k, v)) 0 (sum_by f ((k, v) ∷ [])) (sum_by-cons f (k, v) [])
  sum_by-put k v (e ∷ es) s = put_first k v e es s (sum_by-put k v es (sorted_tail R e.0 (keys_of es) s)) (R k e.0) refl

  pub sum_by-insert : (m : fin.FinMap R X) (k : K) (v : X) → sum_by f (fin.entries (fin.insert m k v)) + weight_at f m k ≡ sum_by f (fin.entries m) + f (k, v)
  sum_by-insert m k v =
      ap (λ es. sum_by f es + weight_at f m k) (fin.entries-insert o m k v)
      ∙ ap (λ found. sum_by f (put R k v (fin.entries m)) + weighed f k found) (fin.get-entries m k ∙ find_is R k (fin.entries m))
      ∙ sum_by-put k v (fin.entries m) (sorted_keys R (fin.entries m) (fin.entries_sorted m))

  at_itself : (k : K) → eq_by_cmp R k k ≡ true
  at_itself k = ap is_eq (tied_itself o k)

  put_back : (b : Bool) (v : X) (other : Option X) → (b ≡ true → other ≡ Some v) → cond b (Some v) (cond b None other) ≡ other
  put_back true v other h = sym (h refl)
  put_back false v other h = refl

  none_out : (b : Bool) (other : Option X) → (b ≡ true → other ≡ None) → cond b None other ≡ other
  none_out true other h = sym (h refl)
  none_out false other h = refl

  -- a key is taken out and put back, or was not there
  removed_back : (m : fin.FinMap R X) (k : K) (v : X) → fin.get m k ≡ Some v → fin.insert (fin.remove m k) k v ≡ m
  removed_back m k v h = fin.same_map o same (fin.insert (fin.remove m k) k v) m (λ q.
      fin.get-insert o (fin.remove m k) k v q ∙ ap (cond (eq_by_cmp R q k) (Some v)) (fin.get-remove o m k q)
      ∙ put_back (eq_by_cmp R q k) v (fin.get m q) (λ t. ap (fin.get m) (same q k (equal (R q k) t)) ∙ h))

  removed_none : (m : fin.FinMap R X) (k : K) → fin.get m k ≡ None → fin.remove m k ≡ m
  removed_none m k h = fin.same_map o same (fin.remove m k) m (λ q.
      fin.get-remove o m k q ∙ none_out (eq_by_cmp R q k) (fin.get m q) (λ t. ap (fin.get m) (same q k (equal (R q k) t)) ∙ h))

  gone : (m : fin.FinMap R X) (k : K) → fin.get (fin.remove m k) k ≡ None
  gone m k = fin.get-remove o m k k ∙ ap (λ b. cond b None (fin.get m k)) (at_itself k)

  removed_by : (m : fin.FinMap R X) (k : K) (found : Option X) → fin.get m k ≡ found → sum_by f (fin.entries (fin.remove m k)) + weighed f k found ≡ sum_by f (fin.entries m)
  removed_by m k None h = ap (λ n. sum_by f (fin.entries n) + 0) (removed_none m k h) ∙ with_nothing (sum_by f (fin.entries m))
  removed_by m k (Some v) h =
      sym (sum_by-insert (fin.remove m k) k v)
      ∙ ap (λ found. sum_by f (fin.entries (fin.insert (fin.remove m k) k v)) + weighed f k found) (gone m k)
      ∙ ap (λ n. sum_by f (fin.entries n) + 0) (removed_back m k v h)
      ∙ with_nothing (sum_by f (fin.entries m))

  pub sum_by-remove : (m : fin.FinMap R X) (k : K) → sum_by f (fin.entries (fin.remove m k)) + weight_at f m k ≡ sum_by f (fin.entries m)
  sum_by-remove m k = removed_by m k (fin.get m k) refl

  less : (a b c : ℕ) → a + b ≡ c → a ≤ c
  less a b c h = omega (arith, h)

  pub sum_by-remove-le : (m : fin.FinMap R X) (k : K) → sum_by f (fin.entries (fin.remove m k)) ≤ sum_by f (fin.entries m)
  sum_by-remove-le m k = less _ (weight_at f m k) _ (sum_by-remove m k)
