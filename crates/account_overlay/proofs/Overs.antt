-- The map that the places of a layer and its journal speak of: what stands at a key, and what a change and its undo do.
use Rattle.std.proofs.Common.{Result, Ok, Err, OnOk, ◌≡◌, Bool, true, false, cond, List, [], ◌∷◌, ◌++◌, Option, Some, None, IsSome, option_map, refl, sym, ap, subst, ◌∙◌, Ordering}
use Rattle.std.specs.Prelude.{T}
use Rattle.std.specs.Option.{unwrap_or}
use Rattle.std.specs.declared.cmp.Ordering.TheVariants.{Less, Equal, Greater}
use Rattle.std.specs.Ordering.{match_ordering, eq_by_cmp, is_eq}
use Rattle.std.specs.Cmp.{IsTotalOrder, tied_itself}
use Rattle.std.specs.BTreeMap.{BTreeMap, insert_entry, is_at, UpdatesBy}
use Rattle.std.specs.Map.{lookup}
use Rattle.std.specs.FinMap as fin
use Rattle.std.specs.FinMap.{IsAntisymmetric}
use Rattle.std.specs.FinMap.Entries.{put, by_order, find-put}
use Rattle.jam_accounts.specs.Seen.{seen_entries, seen_map}
use Rattle.jam_accounts.specs.MapLaws.{got as got_seen, removed}
use Rattle.jam_accounts.specs.PutBackLaws.{equal}
use Rattle.account_overlay.specs.declared.layer.Change.{Change}
use Rattle.account_overlay.specs.declared.layer.Change.TheVariants.{AsBase}
use Rattle.account_overlay.specs.Layers.{seen_change, halves_of, becomes, held, with_value, changed, now_of, saved_of, put_back}

-- where there is no change, what stands below
abbrev pub stood : {X : Type 0} → Option (Change X) → Change X
stood None = AsBase
stood (Some change) = change

-- ---- a value at a key, or none

module _ {L X : Type 0} {R : L → L → Ordering} (o : IsTotalOrder R) (same : IsAntisymmetric R) (m : fin.FinMap R X) where
  pub get-with_value : (k : L) (value : Option X) (q : L) → fin.get (with_value m k value) q ≡ cond (eq_by_cmp R q k) value (fin.get m q)
  get-with_value k None q = fin.get-remove o m k q
  get-with_value k (Some v) q = fin.get-insert o m k v q

  pub alike : (q k : L) → eq_by_cmp R q k ≡ true → fin.get m k ≡ fin.get m q
  alike q k tied = fin.get_tied o m q k (equal (R q k) tied)

  at : (k q : L) (value : Option X) → fin.get m k ≡ value → (b : Bool) → eq_by_cmp R q k ≡ b → cond b value (fin.get m q) ≡ fin.get m q
  at k q value is true tied = sym is ∙ alike q k tied
  at k q value is false apart = refl

  -- what stands there already
  pub with_same : (k : L) (value : Option X) → fin.get m k ≡ value → with_value m k value ≡ m
  with_same k value is = fin.same_map o same (with_value m k value) m (λ q. get-with_value k value q ∙ at k q value is (eq_by_cmp R q k) refl)

  twice : (b : Bool) (new value found : Option X) → cond b new (cond b value found) ≡ cond b new found
  twice true new value found = refl
  twice false new value found = refl

module _ {L X : Type 0} {R : L → L → Ordering} (o : IsTotalOrder R) (same : IsAntisymmetric R) (m : fin.FinMap R X) where
  -- of two values at a key the later stays
  pub with_twice : (k : L) (value new : Option X) → with_value (with_value m k value) k new ≡ with_value m k new
  with_twice k value new =
      fin.same_map o same (with_value (with_value m k value) k new) (with_value m k new) (λ q.
      get-with_value o same (with_value m k value) k new q ∙ ap (cond (eq_by_cmp R q k) new) (get-with_value o same m k value q)
      ∙ twice o same m (eq_by_cmp R q k) new value (fin.get m q) ∙ sym (get-with_value o same m k new q))

  -- what stood there, put back
  pub with_back : (k : L) (value : Option X) → with_value (with_value m k value) k (fin.get m k) ≡ m
  with_back k value = with_twice k value (fin.get m k) ∙ with_same o same m k (fin.get m k) refl

  swapped : (a b : Bool) (value new found : Option X) → (a ≡ true → b ≡ true → ⊥) → cond b new (cond a value found) ≡ cond a value (cond b new found)
  swapped true true value new found apart = absurd (apart refl refl)
  swapped true false value new found apart = refl
  swapped false b value new found apart = refl

  -- values at two keys, in either order
  pub with_swapped : (k j : L) → ((q : L) → eq_by_cmp R q k ≡ true → eq_by_cmp R q j ≡ true → ⊥) → (value new : Option X)
      → with_value (with_value m k value) j new ≡ with_value (with_value m j new) k value
  with_swapped k j apart value new =
      fin.same_map o same (with_value (with_value m k value) j new) (with_value (with_value m j new) k value) (λ q.
      get-with_value o same (with_value m k value) j new q ∙ ap (cond (eq_by_cmp R q j) new) (get-with_value o same m k value q)
      ∙ swapped (eq_by_cmp R q k) (eq_by_cmp R q j) value new (fin.get m q) (apart q)
      ∙ sym (get-with_value o same (with_value m j new) k value q ∙ ap (cond (eq_by_cmp R q k) value) (get-with_value o same m j new q)))

-- ---- changes in a row

module _ {L X : Type 0} {R : L → L → Ordering} (base : fin.FinMap R X) where
  -- the last comes first
  pub changed-push : (m : fin.FinMap R X) (cs : List (L × Change X)) (c : L × Change X) → changed base m (cs ++ c ∷ []) ≡ changed base (with_value m c.0 (held c.1 (fin.get base c.0))) cs
  changed-push m [] c = refl
  changed-push m (d ∷ ds) c = ap (λ n. with_value n d.0 (held d.1 (fin.get base d.0))) (changed-push m ds c)

  module _ (o : IsTotalOrder R) (same : IsAntisymmetric R) where
    first_by : (q : L) (c : L × Change X) (cs : List (L × Change X)) → fin.get (changed base base cs) q ≡ held (stood (fin.find R q cs)) (fin.get base q)
        → (b : Bool) → eq_by_cmp R q c.0 ≡ b → cond b (held c.1 (fin.get base c.0)) (fin.get (changed base base cs) q) ≡ held (stood (cond b (Some c.1) (fin.find R q cs))) (fin.get base q)
    first_by q c cs rest true tied = ap (held c.1) (alike o same base q c.0 tied)
    first_by q c cs rest false apart = rest

    -- what stands at a key: by the first change there
    pub get-changed : (cs : List (L × Change X)) (q : L) → fin.get (changed base base cs) q ≡ held (stood (fin.find R q cs)) (fin.get base q)
    get-changed [] q = refl
    get-changed (c ∷ cs) q = get-with_value o same (changed base base cs) c.0 (held c.1 (fin.get base c.0)) q ∙ first_by q c cs (get-changed cs q) (eq_by_cmp R q c.0) refl

-- ---- entries as they are seen

chosen : {C X : Type 0} (see : C → X) (b : Bool) (c : C) (r : Option C) (s : Option X) → s ≡ option_map see r → cond b (Some (see c)) s ≡ option_map see (cond b (Some c) r)
chosen see true c r s is = refl
chosen see false c r s is = is

module _ {K C L X : Type 0} (R : L → L → Ordering) (key : K → L) (see : C → X) where
  find_seen : (q : L) (es : List (K × C)) → fin.find R q (seen_entries key see es) ≡ option_map see (lookup (is_at (λ k. R q (key k))) es)
  find_seen q [] = refl
  find_seen q (e ∷ es) = chosen see (is_at (R q) (key e.0)) e.1 _ _ (find_seen q es)

  placed : (r : Ordering) (k : K) (c : C) (e : K × C) (es rest : List (K × C)) (more : List (L × X)) → seen_entries key see rest ≡ more
      → seen_entries key see (match_ordering r ((k, c) ∷ e ∷ es) ((e.0, c) ∷ es) (e ∷ rest))
      ≡ by_order r ((key k, see c) ∷ (key e.0, see e.1) ∷ seen_entries key see es) ((key e.0, see c) ∷ seen_entries key see es) ((key e.0, see e.1) ∷ more)
  placed Less k c e es rest more is = refl
  placed Equal k c e es rest more is = refl
  placed Greater k c e es rest more is = ap (λ (xs : List (L × X)). (key e.0, see e.1) ∷ xs) is

  insert_seen : (es : List (K × C)) (k : K) (c : C) → seen_entries key see (insert_entry (λ x y. R (key x) (key y)) es k c) ≡ put R (key k) (see c) (seen_entries key see es)
  insert_seen [] k c = refl
  insert_seen (e ∷ es) k c = placed (R (key k) (key e.0)) k c e es _ _ (insert_seen es k c)

  seen_push : (es : List (K × C)) (e : K × C) → seen_entries key see (es ++ e ∷ []) ≡ seen_entries key see es ++ (key e.0, see e.1) ∷ []
  seen_push [] e = refl
  seen_push (d ∷ ds) e = ap (λ (xs : List (L × X)). (key d.0, see d.1) ∷ xs) (seen_push ds e)

-- ---- places and a journal

module _ {K C L X : Type 0} {R : L → L → Ordering} (o : IsTotalOrder R) (same : IsAntisymmetric R) (key : K → L) (see : C → Change X) (base : fin.FinMap R X) where
  -- what stands at a key now, from what its place holds
  pub got : (places : List (K × C)) (q : L) (found : Option C) → found ≡ lookup (is_at (λ k. R q (key k))) places
      → held (stood (option_map see found)) (fin.get base q) ≡ fin.get (now_of key see base places) q
  got places q found is =
      ap (λ (f : Option C). held (stood (option_map see f)) (fin.get base q)) is
      ∙ ap (λ f. held (stood f) (fin.get base q)) (sym (find_seen R key see q places))
      ∙ sym (get-changed base o same (seen_entries key see places) q)

  inserted_by : (places : List (K × C)) (k : K) (c : C) (q : L) (b : Bool) → eq_by_cmp R q (key k) ≡ b
      → held (stood (cond b (Some (see c)) (fin.find R q (seen_entries key see places)))) (fin.get base q) ≡ cond b (held (see c) (fin.get base (key k))) (fin.get (now_of key see base places) q)
  inserted_by places k c q true tied = ap (held (see c)) (sym (alike o same base q (key k) tied))
  inserted_by places k c q false apart = sym (get-changed base o same (seen_entries key see places) q)

  -- a place that holds something else
  pub now-insert : (places : List (K × C)) (k : K) (c : C)
      → now_of key see base (insert_entry (λ x y. R (key x) (key y)) places k c) ≡ with_value (now_of key see base places) (key k) (held (see c) (fin.get base (key k)))
  now-insert places k c =
      let after : List (L × Change X) = seen_entries key see (insert_entry (λ x y. R (key x) (key y)) places k c) in
      fin.same_map o same (changed base base after) (with_value (now_of key see base places) (key k) (held (see c) (fin.get base (key k)))) (λ q.
      get-changed base o same after q
      ∙ ap (λ f. held (stood f) (fin.get base q)) (ap (fin.find R q) (insert_seen R key see places k c) ∙ find-put R o q (key k) (see c) (seen_entries key see places))
      ∙ inserted_by places k c q (eq_by_cmp R q (key k)) refl
      ∙ sym (get-with_value o same (now_of key see base places) (key k) (held (see c) (fin.get base (key k))) q))

  -- the places after the journal is put back speak now of what was saved
  pub now-put_back : (places journal : List (K × C)) → now_of key see base (put_back (λ x y. R (key x) (key y)) places journal) ≡ saved_of key see base places journal
  now-put_back places [] = refl
  now-put_back places (undo ∷ undos) =
      now-insert (put_back (λ x y. R (key x) (key y)) places undos) undo.0 undo.1
      ∙ ap (λ m. with_value m (key undo.0) (held (see undo.1) (fin.get base (key undo.0)))) (now-put_back places undos)

  seen_stood : (nothing : C) → see nothing ≡ AsBase → (found : Option C) → see (unwrap_or found nothing) ≡ stood (option_map see found)
  seen_stood nothing as_base None = as_base
  seen_stood nothing as_base (Some c) = refl

  -- a change and its undo
  module _ (old new before after : List (K × C)) (place undo : K) (c nothing : C) (as_base : see nothing ≡ AsBase) (alike_keys : key undo ≡ key place)
      (put : new ≡ insert_entry (λ x y. R (key x) (key y)) old place c)
      (more : after ≡ before ++ (undo, unwrap_or (lookup (is_at (λ k. R (key place) (key k))) old) nothing) ∷ []) where
    abbrev was : C
    was = unwrap_or (lookup (is_at (λ k. R (key place) (key k))) old) nothing

    set_now : now_of key see base new ≡ with_value (now_of key see base old) (key place) (held (see c) (fin.get base (key place)))
    set_now = ap (now_of key see base) put ∙ now-insert old place c

    undone : with_value (now_of key see base new) (key undo) (held (see was) (fin.get base (key undo))) ≡ now_of key see base old
    undone =
        (λ i. with_value (set_now i) (alike_keys i) (held (seen_stood nothing as_base (lookup (is_at (λ k. R (key place) (key k))) old) i) (fin.get base (alike_keys i))))
        ∙ ap (with_value (with_value (now_of key see base old) (key place) (held (see c) (fin.get base (key place)))) (key place)) (got old (key place) (lookup (is_at (λ k. R (key place) (key k))) old) refl)
        ∙ with_back o same (now_of key see base old) (key place) (held (see c) (fin.get base (key place)))

    set_saved : saved_of key see base new after ≡ saved_of key see base old before
    set_saved =
        ap (changed base (now_of key see base new)) (ap (seen_entries key see) more ∙ seen_push R key see before (undo, was))
        ∙ changed-push base (now_of key see base new) (seen_entries key see before) (key undo, see was)
        ∙ ap (λ m. changed base m (seen_entries key see before)) undone

    pub set_halves : (value : Option X) → held (see c) (fin.get base (key place)) ≡ value
        → halves_of key see base new after ≡ record { now = with_value (now_of key see base old) (key place) value; saved = saved_of key see base old before }
    set_halves value is = λ i. record { now = (set_now ∙ ap (with_value (now_of key see base old) (key place)) is) i; saved = set_saved i }

  -- a journal that is put back and dropped
  pub rolled_back : (old new before after : List (K × C)) → new ≡ put_back (λ x y. R (key x) (key y)) old before → after ≡ []
      → halves_of key see base new after ≡ record { now = saved_of key see base old before; saved = saved_of key see base old before }
  rolled_back old new before after put none =
      let now : now_of key see base new ≡ saved_of key see base old before = ap (now_of key see base) put ∙ now-put_back old before in
      λ i. record { now = now i; saved = (ap (λ js. saved_of key see base new js) none ∙ now) i }

pub held_becomes : {V X : Type 0} (value : V → X) (o : Option V) (below : Option X) → held (seen_change value (becomes o)) below ≡ option_map value o
held_becomes value None below = refl
held_becomes value (Some v) below = refl

pub at_itself : {L : Type 0} {R : L → L → Ordering} → IsTotalOrder R → (x y : L) → x ≡ y → is_eq (R x y) ≡ true
at_itself {R = R} o x y same = ap (λ z. is_eq (R x z)) (sym same) ∙ ap is_eq (tied_itself o x)

pub both_ok : {A E P Q S : Type 0} (r : Result A E) → OnOk r P → OnOk r Q → (P → Q → S) → OnOk r S
both_ok (Ok a) p q f = f p q
both_ok (Err e) p q f = tt

-- ---- changes taken from the last place on, into a map that begins as the base

module _ {K C L X : Type 0} {R : L → L → Ordering} (key : K → L) (see : C → Change X) (base : fin.FinMap R X) where
  -- what still has a place is as in the base
  abbrev pub IsUntouched : BTreeMap K C → fin.FinMap R X → Type 0
  IsUntouched places m = (q : L) → IsSome (fin.get (seen_map R key see places) q) → fin.get m q ≡ fin.get base q

module _ {K C L X : Type 0} {R : L → L → Ordering} (o : IsTotalOrder R) (same : IsAntisymmetric R) (key : K → L) (see : C → Change X) (base : fin.FinMap R X) where
  module _ (old new : BTreeMap K C) (k : K) (c : C) (m : fin.FinMap R X) (step : old.entries ≡ new.entries ++ (k, c) ∷ []) where
    -- one more
    pub taken_on : (target after : fin.FinMap R X) (value : Option X) → held (see c) (fin.get base (key k)) ≡ value → after ≡ with_value m (key k) value
        → changed base m (seen_entries key see old.entries) ≡ target → changed base after (seen_entries key see new.entries) ≡ target
    taken_on target after value stands is so_far =
        ap (λ n. changed base n (seen_entries key see new.entries)) (is ∙ ap (with_value m (key k)) (sym stands))
        ∙ sym (changed-push base m (seen_entries key see new.entries) (key k, see c))
        ∙ ap (changed base m) (sym (ap (seen_entries key see) step ∙ seen_push R key see new.entries (k, c))) ∙ so_far

    -- a place that says nothing
    pub untouched_there : IsUntouched key see base old m → lookup (is_at (λ x. R (key k) (key x))) old.entries ≡ Some c → m ≡ with_value m (key k) (fin.get base (key k))
    untouched_there untouched there =
        sym (with_same o same m (key k) (fin.get base (key k)) (untouched (key k) (subst IsSome (sym (got_seen R key see o old (key k) ∙ ap (option_map see) there)) refl)))

    untouched_by : (q : L) (value : Option X) (b : Bool) → IsSome (cond b None (fin.get (seen_map R key see old) q)) → IsUntouched key see base old m → cond b value (fin.get m q) ≡ fin.get base q
    untouched_by q value true there untouched = absurd (subst T (sym there) tt)
    untouched_by q value false there untouched = untouched q there

    pub untouched_on : UpdatesBy (λ x y. R (key x) (key y)) (λ x. R (key k) (key x)) old new None → (value : Option X) (after : fin.FinMap R X) → after ≡ with_value m (key k) value
        → IsUntouched key see base old m → IsUntouched key see base new after
    untouched_on updates value after is untouched q there =
        ap (λ n. fin.get n q) is ∙ get-with_value o same m (key k) value q
        ∙ untouched_by q value (eq_by_cmp R q (key k)) (subst IsSome (ap (λ n. fin.get n q) (removed R key see o same old new (key k) updates) ∙ fin.get-remove o (seen_map R key see old) (key k) q) there) untouched
