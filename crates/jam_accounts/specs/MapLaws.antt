-- Maps of the program, seen as finite maps: look-ups, inserts and removals.
use Rattle.std.proofs.Common.{◌≡◌, suc, Bool, true, false, cond, List, [], ◌∷◌, Some, None, Option, option_map, refl, sym, ap, subst, ◌∙◌, Ordering, length, is_some, unwrap_or, IsSome, Result, Ok, Err, OnErr}
use Rattle.std.specs.Prelude.{T}
use Rattle.std.proofs.lemmas.List.{nil_from_length}
use Rattle.std.specs.declared.cmp.Ordering.TheVariants.{Less, Equal, Greater}
use Rattle.std.specs.Ordering.{match_ordering, eq_by_cmp, is_eq, nat_cmp}
use Rattle.std.specs.Cmp.{IsTotalOrder}
use Rattle.std.specs.Cmp.Lexicographic.{slice_cmp}
use Rattle.std.specs.List.{AllByRecursion, AllZip}
use Rattle.std.specs.List.Sorted.{IsStrictlySortedBy}
use Rattle.std.specs.BTreeMap.{BTreeMap, insert_entry, is_at, IsClone, UpdatesBy}
use Rattle.std.specs.Map.{lookup, keys_of, KeepsOthers}
use Rattle.std.specs.FinMap as fin
use Rattle.std.specs.FinMap.{IsAntisymmetric, nat_cmp-IsAntisymmetric, slice_cmp-IsAntisymmetric}
use Rattle.jam_accounts.specs.Accounts.{OfEachEntry}
use Rattle.std.specs.FinMap.Entries.{put, by_order, find-put}
use Rattle.std.proofs.lemmas.Map.Keys.{sorted_head, sorted_tail}
use Rattle.std.proofs.lemmas.Map.Lookups.{exact_pairs, exact_bytes, exact_unsigned}
use Rattle.jam_codec.specs.Lists.{hash_and_number_cmp}
use Rattle.jam_accounts.specs.Seen.{seen_entries, seen_map}
use Rattle.jam_accounts.specs.PutBackLaws.{equal}

-- what is so whatever was answered
pub on_err : {A E P : Type 0} (r : Result A E) → P → OnErr r P
on_err (Ok x) p = tt
on_err (Err e) p = p

module _ {L X : Type 0} (R : L → L → Ordering) where
  pub find_is : (q : L) (es : List (L × X)) → fin.find R q es ≡ lookup (is_at (R q)) es
  find_is q [] = refl
  find_is q (e ∷ es) = ap (cond (is_at (R q) e.0) (Some e.1)) (find_is q es)

module _ {L X : Type 0} (R : L → L → Ordering) where
  put_below : (k : L) (v : X) (es : List (L × X)) → AllByRecursion (λ y. R k y ≡ Less) (keys_of es) → put R k v es ≡ (k, v) ∷ es
  put_below k v [] h = refl
  put_below k v (e ∷ es) h = rw h.0 refl

  pub no_entries : fin.entries (fin.empty {X = X} {R = R}) ≡ []
  no_entries = nil_from_length (fin.entries (fin.empty {X = X} {R = R})) (sym (fin.len-entries (fin.empty {X = X} {R = R})) ∙ fin.len-empty R X)

  entries-from_entries : IsTotalOrder R → (es : List (L × X)) → IsStrictlySortedBy R (keys_of es) → fin.entries (fin.from_entries {R = R} es) ≡ es
  entries-from_entries o [] s = no_entries
  entries-from_entries o (e ∷ es) s =
      fin.entries-insert o (fin.from_entries es) e.0 e.1 ∙ ap (put R e.0 e.1) (entries-from_entries o es (sorted_tail R e.0 (keys_of es) s))
      ∙ put_below e.0 e.1 es (sorted_head R e.0 (keys_of es) s)

tied : {L : Type 0} {R : L → L → Ordering} → IsTotalOrder R → (k x y : L) → is_eq (R k x) ≡ true → is_eq (R k y) ≡ is_eq (R x y)
tied {R = R} o k x y h = ap is_eq (o.congr k x y (equal (R k x) h))

chosen : {V X : Type 0} (value : V → X) (b : Bool) (v : V) (r : Option V) (s : Option X) → s ≡ option_map value r → cond b (Some (value v)) s ≡ option_map value (cond b (Some v) r)
chosen value true v r s e = refl
chosen value false v r s e = e

module _ {K V L X : Type 0} (R : L → L → Ordering) (key : K → L) (value : V → X) where
  lookup_plain : (q : L) (es : List (K × V)) → lookup (is_at (R q)) (seen_entries key value es) ≡ option_map value (lookup (is_at (λ k. R q (key k))) es)
  lookup_plain q [] = refl
  lookup_plain q (e ∷ es) = chosen value (is_at (R q) (key e.0)) e.1 _ _ (lookup_plain q es)

  placed : (o : Ordering) (k : K) (v : V) (e : K × V) (es rest : List (K × V)) (more : List (L × X)) → seen_entries key value rest ≡ more
      → seen_entries key value (match_ordering o ((k, v) ∷ e ∷ es) ((e.0, v) ∷ es) (e ∷ rest))
      ≡ by_order o ((key k, value v) ∷ (key e.0, value e.1) ∷ seen_entries key value es) ((key e.0, value v) ∷ seen_entries key value es) ((key e.0, value e.1) ∷ more)
  placed Less k v e es rest more p = refl
  placed Equal k v e es rest more p = refl
  placed Greater k v e es rest more p = ap (λ (xs : List (L × X)). (key e.0, value e.1) ∷ xs) p

  insert_plain : (es : List (K × V)) (k : K) (v : V) → seen_entries key value (insert_entry (λ x y. R (key x) (key y)) es k v) ≡ put R (key k) (value v) (seen_entries key value es)
  insert_plain [] k v = refl
  insert_plain (e ∷ es) k v = placed (R (key k) (key e.0)) k v e es _ _ (insert_plain es k v)

  below_plain : (k : K) (es : List (K × V)) → AllByRecursion (λ y. R (key k) (key y) ≡ Less) (keys_of es) → AllByRecursion (λ y. R (key k) y ≡ Less) (keys_of (seen_entries key value es))
  below_plain k [] h = tt
  below_plain k (e ∷ es) h = (h.0, below_plain k es h.1)

  sorted_plain : (es : List (K × V)) → IsStrictlySortedBy (λ x y. R (key x) (key y)) (keys_of es) → IsStrictlySortedBy R (keys_of (seen_entries key value es))
  unfolding IsStrictlySortedBy
  sorted_plain [] h = tt
  sorted_plain (e ∷ es) h = (below_plain e.0 es h.0, sorted_plain es h.1)

  length_plain : (es : List (K × V)) → length (seen_entries key value es) ≡ length es
  length_plain [] = refl
  length_plain (e ∷ es) = ap suc (length_plain es)

  plain_clone : (C : K → K → Type 0) (D : V → V → Type 0) → ((x y : K) → C x y → key y ≡ key x) → ((v w : V) → D v w → value w ≡ value v)
      → (es fs : List (K × V)) → AllZip (λ p q. C p.0 q.0 × D p.1 q.1) es fs → seen_entries key value fs ≡ seen_entries key value es
  plain_clone C D g h [] [] a = refl
  plain_clone C D g h [] (y ∷ ys) a = absurd a
  plain_clone C D g h (x ∷ xs) [] a = absurd a
  plain_clone C D g h (x ∷ xs) (y ∷ ys) a = λ i. (g x.0 y.0 a.0.0 i, h x.1 y.1 a.0.1 i) ∷ plain_clone C D g h xs ys a.1 i

  -- a clone is seen as what it is a clone of
  pub cloned : {C : K → K → Type 0} {D : V → V → Type 0} (m n : BTreeMap K V) → IsClone C D m n
      → ((x y : K) → C x y → key y ≡ key x) → ((v w : V) → D v w → value w ≡ value v) → seen_map R key value n ≡ seen_map R key value m
  cloned {C = C} {D = D} m n is g h = ap (fin.from_entries {R = R}) (plain_clone C D g h m.entries n.entries is)

  module _ (o : IsTotalOrder R) where
    -- what is seen at a key
    pub got : (m : BTreeMap K V) (q : L) → fin.get (seen_map R key value m) q ≡ option_map value (lookup (is_at (λ k. R q (key k))) m.entries)
    got m q = fin.get-from_entries o (seen_entries key value m.entries) q ∙ find_is R q (seen_entries key value m.entries) ∙ lookup_plain q m.entries

    -- where the program's map has nothing, nothing is seen
    pub nothing_seen : (m : BTreeMap K V) (k : K) → lookup (is_at (λ x. R (key k) (key x))) m.entries ≡ None → fin.get (seen_map R key value m) (key k) ≡ None
    nothing_seen m k none = got m (key k) ∙ ap (option_map value) none

    pub something_seen : (m : BTreeMap K V) (k : K) (seen_as : fin.FinMap R X) → seen_map R key value m ≡ seen_as → IsSome (fin.get seen_as (key k)) → lookup (is_at (λ x. R (key k) (key x))) m.entries ≡ None → ⊥
    something_seen m k seen_as is some none = cc (subst IsSome (sym (ap (λ s. fin.get s (key k)) is) ∙ nothing_seen m k none) some)

    pub entries_seen : (m : BTreeMap K V) → IsStrictlySortedBy (λ x y. R (key x) (key y)) (keys_of m.entries) → fin.entries (seen_map R key value m) ≡ seen_entries key value m.entries
    entries_seen m s = entries-from_entries R o (seen_entries key value m.entries) (sorted_plain m.entries s)

    pub length_seen : (m : BTreeMap K V) → IsStrictlySortedBy (λ x y. R (key x) (key y)) (keys_of m.entries) → length m.entries ≡ fin.len (seen_map R key value m)
    length_seen m s = sym (fin.len-entries (seen_map R key value m) ∙ ap length (entries_seen m s) ∙ length_plain m.entries)

    module _ (same : IsAntisymmetric R) where
      pub inserted : (m n : BTreeMap K V) (k : K) (v : V) → n.entries ≡ insert_entry (λ x y. R (key x) (key y)) m.entries k v → seen_map R key value n ≡ fin.insert (seen_map R key value m) (key k) (value v)
      inserted m n k v h = fin.same_map o same (seen_map R key value n) (fin.insert (seen_map R key value m) (key k) (value v)) (λ q.
          fin.get-from_entries o (seen_entries key value n.entries) q
          ∙ ap (fin.find R q) (ap (seen_entries key value) h ∙ insert_plain m.entries k v)
          ∙ find-put R o q (key k) (value v) (seen_entries key value m.entries)
          ∙ ap (cond (eq_by_cmp R q (key k)) (Some (value v))) (sym (fin.get-from_entries o (seen_entries key value m.entries) q))
          ∙ sym (fin.get-insert o (seen_map R key value m) (key k) (value v) q))

      -- a query for another key than the one that was taken out
      apart : (k q : L) → is_eq (R q k) ≡ false → (x : K) → is_eq (R k (key x)) ≡ true → is_eq (R q (key x)) ≡ false
      apart k q other x here = ap (λ y. is_eq (R q y)) (sym (same k (key x) (equal (R k (key x)) here))) ∙ other

      found_after : (m n : BTreeMap K V) (k q : L) → UpdatesBy (λ x y. R (key x) (key y)) (λ x. R k (key x)) m n None → (b : Bool) → eq_by_cmp R q k ≡ b
          → option_map value (lookup (is_at (λ x. R q (key x))) n.entries) ≡ cond b None (option_map value (lookup (is_at (λ x. R q (key x))) m.entries))
      unfolding KeepsOthers
      found_after m n k q u true here =
          ap (λ (p : L). option_map value (lookup (is_at (λ x. R p (key x))) n.entries)) (same q k (equal (R q k) here)) ∙ ap (option_map value) u.1
      found_after m n k q u false other = ap (option_map value) (u.3 (is_at (λ x. R q (key x))) (λ x y at. tied o q (key x) (key y) at) (apart k q other))

      pub removed : (m n : BTreeMap K V) (k : L) → UpdatesBy (λ x y. R (key x) (key y)) (λ x. R k (key x)) m n None → seen_map R key value n ≡ fin.remove (seen_map R key value m) k
      removed m n k u = fin.same_map o same (seen_map R key value n) (fin.remove (seen_map R key value m) k) (λ q.
          got n q ∙ found_after m n k q u (eq_by_cmp R q k) refl
          ∙ ap (cond (eq_by_cmp R q k) None) (sym (got m q))
          ∙ sym (fin.get-remove o (seen_map R key value m) k q))

same_Some : {A : Type 0} (x y : A) → Some x ≡ Some y → x ≡ y
same_Some x y e = ap (λ o. unwrap_or o x) e

not_Some : {A : Type 0} (x : A) → None ≡ Some x → ⊥
not_Some x e = subst T (sym (ap is_some e)) tt

pub of_none : {K X : Type 0} (R : K → K → Ordering) (P : K → X → Type 0) → OfEachEntry P (fin.empty {X = X} {R = R})
of_none R P q w e = absurd (not_Some w (sym (fin.get-empty R q) ∙ e))

-- what is true of each entry
module _ {K X : Type 0} {R : K → K → Ordering} (P : K → X → Type 0) where
  of_either : (k q : K) (v w : X) (m : fin.FinMap R X) → (R q k ≡ Equal → q ≡ k) → OfEachEntry P m → P k v → (b : Bool) → is_eq (R q k) ≡ b → cond b (Some v) (fin.get m q) ≡ Some w → P q w
  of_either k q v w m same h p true t e = subst (λ x. P x w) (sym (same (equal (R q k) t))) (subst (P k) (same_Some v w e) p)
  of_either k q v w m same h p false t e = h q w e

  of_other : (q : K) (w : X) (m : fin.FinMap R X) → OfEachEntry P m → (b : Bool) → cond b None (fin.get m q) ≡ Some w → P q w
  of_other q w m h true e = absurd (not_Some w e)
  of_other q w m h false e = h q w e

  module _ (o : IsTotalOrder R) where
    pub of_inserted : IsAntisymmetric R → (m : fin.FinMap R X) (k : K) (v : X) → OfEachEntry P m → P k v → OfEachEntry P (fin.insert m k v)
    of_inserted same m k v h p q w e = of_either k q v w m (same q k) h p (is_eq (R q k)) refl (sym (fin.get-insert o m k v q) ∙ e)

    pub of_removed : (m : fin.FinMap R X) (k : K) → OfEachEntry P m → OfEachEntry P (fin.remove m k)
    of_removed m k h q w e = of_other q w m h (eq_by_cmp R q k) (sym (fin.get-remove o m k q) ∙ e)

pub bytes_same : IsAntisymmetric (slice_cmp nat_cmp)
bytes_same = slice_cmp-IsAntisymmetric nat_cmp-IsAntisymmetric

pub lookups_same : IsAntisymmetric hash_and_number_cmp
lookups_same a b h = exact_pairs (slice_cmp nat_cmp) nat_cmp exact_bytes exact_unsigned a b h
