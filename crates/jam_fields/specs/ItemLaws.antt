-- Items that are read, or written, one after another.
use Rattle.std.proofs.Common.{◌≡◌, ℕ, zero, suc, ◌+◌, ◌-◌, ◌<◌, ◌≤◌, List, [], ◌∷◌, ◌++◌, length, ap, sym, ◌∙◌, refl, subst, arith, Ok, Err, Result, Option, Some, None, append_assoc, append-nil, length-append, get_or, take, drop, drop-cons, add-one}
use Rattle.std.specs.Prelude.{slice_get}
use Rattle.jam_codec.specs.Reading.{Reading, Refuses, ◌>>=◌}
use Rattle.jam_codec.specs.Format.{Format, items_at, items_spelled, items_fit}
use Rattle.std.specs.Io.{StartsWith}
use Rattle.jam_fields.specs.Rows.{last_item}
use Rattle.std.proofs.lemmas.List.{take-take}
use Rattle.std.proofs.Math.Seq.{take-append_seam}

-- what stands in front of bytes that were kept was kept
pub kept_front : (old more new : List ℕ) → take (length (old ++ more)) new ≡ old ++ more → take (length old) new ≡ old
kept_front old more new kept =
    let shorter : length old ≤ length (old ++ more) = omega (arith, length-append old more) in
    sym (take-take (length old) (length (old ++ more)) new shorter) ∙ ap (take (length old)) kept ∙ take-append_seam old more

at_length : {A : Type 0} → (xs : List A) (x : A) → slice_get (xs ++ x ∷ []) (length xs) ≡ Some x
at_length [] x = refl
at_length (y ∷ xs) x = at_length xs x

pub last_item-append : {A : Type 0} → (xs : List A) (x : A) → last_item (xs ++ x ∷ []) ≡ Some x
unfolding last_item
last_item-append xs x =
    let place : length (xs ++ x ∷ []) - 1 ≡ length xs = omega (arith, length-append xs (x ∷ [])) in
    rw place (at_length xs x)

pub last_item-cons : {A : Type 0} → (x y : A) (ys : List A) → last_item (x ∷ y ∷ ys) ≡ last_item (y ∷ ys)
unfolding last_item
last_item-cons x y ys =
    let left : length (x ∷ y ∷ ys) - 1 ≡ suc (length ys) = omega arith in
    let right : length (y ∷ ys) - 1 ≡ length ys = omega arith in
    rw (left, right) refl

-- the item before the next one, where `before` stood before the first
abbrev pub last_after : {A : Type 0} → Option A → List A → Option A
last_after before [] = before
last_after before (x ∷ xs) = last_after (Some x) xs

last_after-some : {A : Type 0} → (x : A) (xs : List A) → last_after (Some x) xs ≡ last_item (x ∷ xs)
unfolding last_item
last_after-some x [] = refl
last_after-some x (y ∷ ys) = last_after-some y ys ∙ sym (last_item-cons x y ys)

pub last_after-last_item : {A : Type 0} → (xs : List A) → last_after None xs ≡ last_item xs
unfolding last_item
last_after-last_item [] = refl
last_after-last_item (x ∷ xs) = last_after-some x xs

-- items in front of those that are read
abbrev pub behind : {A : Type 0} → List A → Result (List A × Reading) ℕ → Result (List A × Reading) ℕ
behind front (Ok x) = Ok (front ++ x.0, x.1)
behind front (Err place) = Err place

-- some items were read, and these many are left
pub record Ahead {A : Type 0} (g : Option A → Format A) (all : Result (List A × Reading) ℕ) (front : List A) (n : ℕ) (r : Reading) : Type 0 where
  pub is : all ≡ behind front (items_at g n (last_item front) r)

behind-none : {A : Type 0} → (q : Result (List A × Reading) ℕ) → q ≡ behind [] q
behind-none (Ok x) = refl
behind-none (Err place) = refl

behind-append : {A : Type 0} → (front : List A) (x : A) (q : Result (List A × Reading) ℕ) → behind front (◌>>=◌ {B = List A × Reading} q (λ y. Ok (x ∷ y.0, y.1))) ≡ behind (front ++ x ∷ []) q
behind-append front x (Ok y) = ap (λ xs. Ok (xs, y.1)) (sym (append_assoc front (x ∷ []) y.0))
behind-append front x (Err place) = refl

pub none_read : {A : Type 0} → (g : Option A → Format A) (n : ℕ) (r : Reading) → Ahead g (items_at g n None r) [] n r
unfolding last_item
none_read g n r = record { is = behind-none (items_at g n None r) }

module _ {A : Type 0} (g : Option A → Format A) (all : Result (List A × Reading) ℕ) (front : List A) (n : ℕ) (r : Reading) where
  pub one_read : (m : ℕ) (x : A) (s : Reading) → Ahead g all front n r → n ≡ suc m → (g (last_item front)).read r ≡ Ok (x, s) → Ahead g all (front ++ x ∷ []) m s
  unfolding items_at
  one_read m x s ahead count read = record {
    is = ahead.is ∙ rw (count, read, last_item-append front x) (behind-append front x (items_at g m (Some x) s));
  }

  pub one_refused : (m : ℕ) (place : Option ℕ) → Ahead g all front n r → n ≡ suc m → Refuses place ((g (last_item front)).read r) → Refuses place all
  unfolding items_at
  one_refused m (Some place) ahead count refused = ahead.is ∙ rw (count, refused) refl
  one_refused m None ahead count refused = tt

  pub all_read : Ahead g all front n r → n ≡ zero → all ≡ Ok (front, r)
  unfolding items_at
  all_read ahead count = ahead.is ∙ rw (count, append-nil) refl

-- one item more at the end
spelled-append : {A : Type 0} → (g : Option A → Format A) (before : Option A) (xs : List A) (x : A) → items_spelled g before (xs ++ x ∷ []) ≡ items_spelled g before xs ++ (g (last_after before xs)).spell x
unfolding items_spelled
spelled-append g before [] x = append-nil ((g before).spell x)
spelled-append g before (y ∷ xs) x =
    ap (λ (bytes : List ℕ). (g before).spell y ++ bytes) (spelled-append g (Some y) xs x)
    ∙ sym (append_assoc ((g before).spell y) (items_spelled g (Some y) xs) ((g (last_after (Some y) xs)).spell x))

pub items_spelled-append : {A : Type 0} → (g : Option A → Format A) (xs : List A) (x : A) → items_spelled g None (xs ++ x ∷ []) ≡ items_spelled g None xs ++ (g (last_item xs)).spell x
items_spelled-append g xs x = spelled-append g None xs x ∙ ap (λ last. items_spelled g None xs ++ (g last).spell x) (last_after-last_item xs)

fit-append : {A : Type 0} → (g : Option A → Format A) (before : Option A) (xs : List A) (x : A) → items_fit g (length xs) before xs → (g (last_after before xs)).Fits x → items_fit g (length (xs ++ x ∷ [])) before (xs ++ x ∷ [])
unfolding items_fit
fit-append g before [] x h fits = (fits, tt)
fit-append g before (y ∷ xs) x h fits = (h.0, fit-append g (Some y) xs x h.1 fits)

pub items_fit-append : {A : Type 0} → (g : Option A → Format A) (xs : List A) (x : A) → items_fit g (length xs) None xs → (g (last_item xs)).Fits x → items_fit g (length (xs ++ x ∷ [])) None (xs ++ x ∷ [])
items_fit-append g xs x h fits = fit-append g None xs x h (subst (λ last. (g last).Fits x) (sym (last_after-last_item xs)) fits)

-- some items were added to the bytes, and these are left
pub record Added {A : Type 0} (g : Option A → Format A) (all left : List A) (old new : List ℕ) : Type 0 where
  pub front : List A
  pub parts : all ≡ front ++ left
  pub bytes : new ≡ old ++ items_spelled g None front

pub none_added : {A : Type 0} → (g : Option A → Format A) (all : List A) (old : List ℕ) → Added g all all old old
unfolding items_spelled
none_added g all old = record { front = []; parts = refl; bytes = sym (append-nil old) }

pub one_added : {A : Type 0} → (g : Option A → Format A) (all left : List A) (x : A) (old mid new : List ℕ) → Added g all (x ∷ left) old mid → ((last : Option A) → new ≡ mid ++ (g last).spell x) → Added g all left old new
one_added g all left x old mid new added is = record {
  front = added.front ++ x ∷ [];
  parts = added.parts ∙ sym (append_assoc added.front (x ∷ []) left);
  bytes =
      is (last_item added.front)
      ∙ ap (λ (bytes : List ℕ). bytes ++ (g (last_item added.front)).spell x) added.bytes
      ∙ append_assoc old (items_spelled g None added.front) ((g (last_item added.front)).spell x)
      ∙ ap (λ (bytes : List ℕ). old ++ bytes) (sym (items_spelled-append g added.front x));
}

-- the same, and those that were added fit
pub record AddedWhole {A : Type 0} (g : Option A → Format A) (all left : List A) (old new : List ℕ) : Type 0 where
  pub added : Added g all left old new
  pub fit : items_fit g (length added.front) None added.front

pub none_added_whole : {A : Type 0} → (g : Option A → Format A) (all : List A) (old : List ℕ) → AddedWhole g all all old old
unfolding items_fit none_added
none_added_whole g all old = record { added = none_added g all old; fit = tt }

pub one_added_whole : {A : Type 0} → (g : Option A → Format A) (all left : List A) (x : A) (old mid new : List ℕ) → (whole : AddedWhole g all (x ∷ left) old mid) → ((last : Option A) → new ≡ mid ++ (g last).spell x) → (g (last_item whole.added.front)).Fits x → AddedWhole g all left old new
unfolding one_added
one_added_whole g all left x old mid new whole is fits = record {
  added = one_added g all left x old mid new whole.added is;
  fit = items_fit-append g whole.added.front x whole.fit fits;
}

pub all_fit : {A : Type 0} → (g : Option A → Format A) (all left : List A) (old new : List ℕ) → AddedWhole g all left old new → left ≡ [] → items_fit g (length all) None all
all_fit g all left old new whole none =
    let same : whole.added.front ≡ all = sym (append-nil whole.added.front) ∙ ap (λ xs. whole.added.front ++ xs) (sym none) ∙ sym whole.added.parts in
    subst (λ xs. items_fit g (length xs) None xs) same whole.fit

-- the bytes that were there before these items stand in front of what comes of the bytes after them
pub kept_whole : {A : Type 0} → (g : Option A → Format A) (all left : List A) (old mid new : List ℕ) → AddedWhole g all left old mid → StartsWith new mid → StartsWith new old
kept_whole g all left old mid new whole kept =
    kept_front old (items_spelled g None whole.added.front) new (ap (λ (bytes : List ℕ). take (length bytes) new) (sym whole.added.bytes) ∙ kept ∙ whole.added.bytes)

pub drop_is : {A : Type 0} → (xs : List A) (i : ℕ) (x : A) → i < length xs → x ≡ get_or xs i x → drop i xs ≡ x ∷ drop (i + 1) xs
drop_is xs i x within is = drop-cons xs i x within ∙ ap (λ y. y ∷ drop (suc i) xs) (sym is) ∙ ap (λ k. x ∷ drop k xs) (sym (add-one i))

-- what is read after the last item
pub read_after_last : {A : Type 0} → (g : Option A → Format A) (xs : List A) (last : Option A) (r : Reading) → last ≡ slice_get xs (length xs - 1) → (g last).read r ≡ (g (last_item xs)).read r
unfolding last_item
read_after_last g xs last r is = ap (λ y. (g y).read r) is
