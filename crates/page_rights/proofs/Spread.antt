-- Parts of the pages of runs.
use Rattle.std.proofs.Common.{◌≡◌, ℕ, zero, suc, ◌+◌, ◌-◌, ◌^◌, ◌<◌, ◌≤◌, min, Bool, true, false, cond, Option, Some, None, List, [], ◌∷◌, ◌++◌, length, map, take, drop, replicate, get_or, refl, sym, ap, ◌∙◌, append_assoc, append-nil, length-append, length-drop, arith, take_at, take-take}
use Rattle.std.proofs.lemmas.List.{length-replicate, drop-replicate, take-replicate, map-append, replicate-append-replicate, drop_more, drop_all, drop-drop, take-append-drop, drop-take, length-take-le, get_or_append_left, get_or-append_right, get_or-replicate}
use Rattle.std.specs.List.{position_from}
use Rattle.page_rights.specs.declared.rights.Rights.{Rights}
use Rattle.page_rights.specs.declared.rights.Rights.TheVariants as may
use Rattle.page_rights.specs.declared.rights.Change.{Change}
use Rattle.page_rights.specs.declared.rights.Change.TheVariants.{Keep}
use Rattle.page_rights.specs.declared.parts.Run.{Run}
use Rattle.std.specs.Prelude.{is_some, not}
use Rattle.page_rights.specs.declared.rights.Sought.TheVariants.{Below, Other}
use Rattle.page_rights.specs.PageRights.{none_granted, with_range, reaches, lifted, granted, lifted_range, pages_in}
use Rattle.page_rights.specs.RunList.{spread, rights_of_runs, changed, is_sought}

module _ {A : Type 0} where
  -- a part of a run, and what is left of the part behind it
  cut_run : (c : ℕ) (x : A) (rest : List A) (first count : ℕ)
      → take count (drop first (replicate c x ++ rest)) ≡ replicate (min count (c - min first c)) x ++ take (count - min count (c - min first c)) (drop (first - min first c) rest)
  cut_run zero x rest first count =
      let none : min count (0 - min first 0) ≡ 0 = omega arith in
      let whole : first - min first 0 ≡ first = omega arith in
      let left : count - 0 ≡ count = omega arith in
      rw (whole, none, left) refl
  cut_run (suc c) x rest zero zero = let none : min 0 (suc c - min 0 (suc c)) ≡ 0 = omega arith in rw none refl
  cut_run (suc c) x rest zero (suc count) =
      let one : min (suc count) (suc c - min 0 (suc c)) ≡ suc (min count (c - min 0 c)) = omega arith in
      let left : suc count - suc (min count (c - min 0 c)) ≡ count - min count (c - min 0 c) = omega arith in
      let start : 0 - min 0 (suc c) ≡ 0 - min 0 c = omega arith in
      rw (one, left, start) (ap (λ xs. x ∷ xs) (cut_run c x rest zero count))
  cut_run (suc c) x rest (suc first) count =
      let shorter : suc c - min (suc first) (suc c) ≡ c - min first c = omega arith in
      let start : suc first - min (suc first) (suc c) ≡ first - min first c = omega arith in
      rw (shorter, start) (cut_run c x rest first count)

  map-replicate : {B : Type 0} (f : A → B) (n : ℕ) (x : A) → map f (replicate n x) ≡ replicate n (f x)
  map-replicate f zero x = refl
  map-replicate f (suc n) x = ap (λ xs. f x ∷ xs) (map-replicate f n x)

  all_the_same : (n i : ℕ) (x : A) → get_or (replicate n x) i x ≡ x
  all_the_same zero i x = refl
  all_the_same (suc n) zero x = refl
  all_the_same (suc n) (suc i) x = all_the_same n i x

  -- a test at the pages of one run
  run_fails : (p : A → Bool) (n at : ℕ) (x : A) (rest : List A) → p x ≡ false → position_from p at (replicate n x ++ rest) ≡ position_from p (at + n) rest
  run_fails p zero at x rest e = let same : at + 0 ≡ at = omega arith in rw same refl
  run_fails p (suc n) at x rest e = let next : at + suc n ≡ at + 1 + n = omega arith in rw (e, next) (run_fails p n (at + 1) x rest e)

  run_passes : (p : A → Bool) (n at : ℕ) (x : A) (rest : List A) → p x ≡ true → 0 < n → position_from p at (replicate n x ++ rest) ≡ Some at
  run_passes p zero at x rest e h = absurd (omega arith)
  run_passes p (suc n) at x rest e h = rw e refl

  -- the first n items after those of a range were replaced
  pub replaced : (n first count : ℕ) (all new range rest : List A) → n ≤ length all → first + count ≤ n → length range ≡ count
      → new ≡ (take first all ++ range) ++ take (n - (first + count)) (drop (first + count) all)
      → take n (new ++ rest) ≡ take first (take n all) ++ range ++ drop (first + count) (take n all)
  replaced n first count all new range rest long fits size e =
      let before : first ≤ n = omega arith in
      let whole : first + count + (n - (first + count)) ≡ n = omega arith in
      let start : length (take first all) ≡ first = length-take-le first all (omega arith) in
      let left : n - (first + count) ≤ length (drop (first + count) all) = omega (arith, length-drop (first + count) all) in
      let end : length (take (n - (first + count)) (drop (first + count) all)) ≡ n - (first + count) = length-take-le (n - (first + count)) (drop (first + count) all) left in
      let size_new : length new ≡ n = ap length e ∙ omega (arith, length-append (take first all ++ range) (take (n - (first + count)) (drop (first + count) all)), length-append (take first all) range, start, size, end) in
      take_at new rest n size_new ∙ e
      ∙ ap (λ xs. xs ++ range ++ take (n - (first + count)) (drop (first + count) all)) (sym (take-take first n all before))
      ∙ ap (λ xs. take first (take n all) ++ range ++ xs) (sym (ap (λ m. drop (first + count) (take m all)) (sym whole) ∙ drop-take (first + count) (n - (first + count)) all))

  -- a part of the first n items
  pub part_of_first : (n first count : ℕ) (all : List A) → first + count ≤ n → take count (drop first (take n all)) ≡ take count (drop first all)
  part_of_first n first count all fits =
      let whole : n ≡ first + (n - first) = omega arith in
      let room : count ≤ n - first = omega arith in
      ap (λ m. take count (drop first (take m all))) whole ∙ ap (take count) (drop-take first (n - first) all) ∙ take-take count (n - first) (drop first all) room

map_keep : (xs : List Rights) → map (changed Keep) xs ≡ xs
map_keep [] = refl
map_keep (x ∷ xs) = ap (λ l. x ∷ l) (map_keep xs)

spread-append : (xs ys : List Run) → spread (xs ++ ys) ≡ spread xs ++ spread ys
spread-append [] ys = refl
spread-append (run ∷ rest) ys = ap (λ l. replicate run.count run.rights ++ l) (spread-append rest ys) ∙ sym (append_assoc (replicate run.count run.rights) (spread rest) (spread ys))

pub length-none_granted : length none_granted ≡ 2 ^ 20
unfolding none_granted
length-none_granted = length-replicate (2 ^ 20) may.No

enough : (xs : List Rights) → 2 ^ 20 ≤ length (xs ++ none_granted)
enough xs = omega (arith, length-append xs none_granted, length-none_granted)

pub nothing_spread : take (2 ^ 20) none_granted ≡ none_granted
unfolding none_granted
nothing_spread = take-replicate (2 ^ 20) (2 ^ 20) may.No (omega arith)

none_in : (first count : ℕ) → first + count ≤ 2 ^ 20 → take count (drop first none_granted) ≡ replicate count may.No
unfolding none_granted
none_in first count h = let room : count ≤ 2 ^ 20 - first = omega arith in ap (take count) (drop-replicate first (2 ^ 20) may.No) ∙ take-replicate count (2 ^ 20 - first) may.No room

none_at : (i : ℕ) → get_or none_granted i may.No ≡ may.No
unfolding none_granted
none_at i = all_the_same (2 ^ 20) i may.No

-- the pages from the i-th run on
module _ (runs : List Run) (i : ℕ) where
  from_run : (d : Run) → i < length runs → spread (drop i runs) ++ none_granted ≡ replicate (get_or runs i d).count (get_or runs i d).rights ++ (spread (drop (i + 1) runs) ++ none_granted)
  from_run d l = ap (λ rs. spread rs ++ none_granted) (drop_more runs i d l) ∙ append_assoc (replicate (get_or runs i d).count (get_or runs i d).rights) (spread (drop (i + 1) runs)) none_granted

  past_runs : length runs ≤ i → spread (drop i runs) ++ none_granted ≡ none_granted
  past_runs l = ap (λ rs. spread rs ++ none_granted) (drop_all i runs l)

  part_at_run : (d : Run) (before left passed taken : ℕ) → i < length runs → passed ≡ min before (get_or runs i d).count → taken ≡ min left ((get_or runs i d).count - passed)
      → take left (drop before (spread (drop i runs) ++ none_granted)) ≡ replicate taken (get_or runs i d).rights ++ take (left - taken) (drop (before - passed) (spread (drop (i + 1) runs) ++ none_granted))
  part_at_run d before left passed taken l p t =
      ap (λ xs. take left (drop before xs)) (from_run d l)
      ∙ cut_run (get_or runs i d).count (get_or runs i d).rights (spread (drop (i + 1) runs) ++ none_granted) before left
      ∙ rw (t, p) refl

  part_past_runs : (before left : ℕ) → length runs ≤ i → before + left ≤ 2 ^ 20 → take left (drop before (spread (drop i runs) ++ none_granted)) ≡ replicate left may.No
  part_past_runs before left l h = ap (λ xs. take left (drop before xs)) (past_runs l) ∙ none_in before left h

  -- a run that is copied
  pub copied : (change : Change) (d : Run) (before left passed taken : ℕ) (to : Rights) (out new : List Rights) → i < length runs → passed ≡ min before (get_or runs i d).count
      → taken ≡ min left ((get_or runs i d).count - passed) → to ≡ changed change (get_or runs i d).rights → new ≡ out ++ replicate taken to
      → new ++ map (changed change) (take (left - taken) (drop (before - passed) (spread (drop (i + 1) runs) ++ none_granted))) ≡ out ++ map (changed change) (take left (drop before (spread (drop i runs) ++ none_granted)))
  copied change d before left passed taken to out new l p t r e =
      let rest = take (left - taken) (drop (before - passed) (spread (drop (i + 1) runs) ++ none_granted)) in
      let f = changed change in
      ap (λ xs. xs ++ map f rest) (e ∙ ap (λ x. out ++ replicate taken x) r)
      ∙ append_assoc out _ _
      ∙ ap (λ xs. out ++ xs) (sym (ap (map f) (part_at_run d before left passed taken l p t) ∙ map-append f (replicate taken (get_or runs i d).rights) rest ∙ ap (λ xs. xs ++ map f rest) (map-replicate f taken (get_or runs i d).rights)))

  pub copied_past : (change : Change) (before left : ℕ) (to : Rights) → length runs ≤ i → before + left ≤ 2 ^ 20 → to ≡ changed change may.No
      → replicate left to ≡ map (changed change) (take left (drop before (spread (drop i runs) ++ none_granted)))
  copied_past change before left to l h r = ap (replicate left) r ∙ sym (ap (map (changed change)) (part_past_runs before left l h) ∙ map-replicate (changed change) left may.No)

  -- a page that is looked up
  pub in_run : (d : Run) (before : ℕ) → i < length runs → before < (get_or runs i d).count → get_or (spread (drop i runs) ++ none_granted) before may.No ≡ (get_or runs i d).rights
  in_run d before l h =
      let short : before < length (replicate (get_or runs i d).count (get_or runs i d).rights) = omega (arith, length-replicate (get_or runs i d).count (get_or runs i d).rights) in
      ap (λ xs. get_or xs before may.No) (from_run d l) ∙ get_or_append_left _ _ may.No before short ∙ get_or-replicate _ before _ may.No h

  pub behind_run : (d : Run) (before : ℕ) → i < length runs → (get_or runs i d).count ≤ before
      → get_or (spread (drop (i + 1) runs) ++ none_granted) (before - (get_or runs i d).count) may.No ≡ get_or (spread (drop i runs) ++ none_granted) before may.No
  behind_run d before l h = sym (ap (λ xs. get_or xs before may.No) (from_run d l) ∙ get_or-append_right _ _ (get_or runs i d).count before may.No (length-replicate _ _) h)

  pub behind_all : (before : ℕ) → length runs ≤ i → get_or (spread (drop i runs) ++ none_granted) before may.No ≡ may.No
  behind_all before l = ap (λ xs. get_or xs before may.No) (past_runs l) ∙ none_at before

  -- a page that is searched
  module _ (p : Rights → Bool) (page before left : ℕ) where
    pub found_here : (d : Run) (passed taken : ℕ) → i < length runs → passed ≡ min before (get_or runs i d).count → taken ≡ min left ((get_or runs i d).count - passed) → 0 < taken → p (get_or runs i d).rights ≡ true
        → position_from p page (take left (drop before (spread (drop i runs) ++ none_granted))) ≡ Some page
    found_here d passed taken l s t some e = ap (position_from p page) (part_at_run d before left passed taken l s t) ∙ run_passes p taken page _ _ e some

    pub not_here : (d : Run) (passed taken : ℕ) → i < length runs → passed ≡ min before (get_or runs i d).count → taken ≡ min left ((get_or runs i d).count - passed) → p (get_or runs i d).rights ≡ false
        → position_from p (page + taken) (take (left - taken) (drop (before - passed) (spread (drop (i + 1) runs) ++ none_granted))) ≡ position_from p page (take left (drop before (spread (drop i runs) ++ none_granted)))
    not_here d passed taken l s t e = sym (ap (position_from p page) (part_at_run d before left passed taken l s t) ∙ run_fails p taken page _ _ e)

    pub none_here : (d : Run) (passed taken : ℕ) → i < length runs → passed ≡ min before (get_or runs i d).count → taken ≡ min left ((get_or runs i d).count - passed) → taken ≡ 0
        → position_from p (page + taken) (take (left - taken) (drop (before - passed) (spread (drop (i + 1) runs) ++ none_granted))) ≡ position_from p page (take left (drop before (spread (drop i runs) ++ none_granted)))
    none_here d passed taken l s t z =
        let rest = take (left - taken) (drop (before - passed) (spread (drop (i + 1) runs) ++ none_granted)) in
        let same : page + taken ≡ page = omega arith in
        sym (ap (position_from p page) (part_at_run d before left passed taken l s t ∙ ap (λ n. replicate n (get_or runs i d).rights ++ rest) z) ∙ ap (λ n. position_from p n rest) (sym same))

    all_none : length runs ≤ i → before + left ≤ 2 ^ 20 → position_from p page (take left (drop before (spread (drop i runs) ++ none_granted))) ≡ position_from p page (replicate left may.No ++ [])
    all_none l h = ap (position_from p page) (part_past_runs before left l h ∙ sym (append-nil (replicate left may.No)))

    pub found_past : length runs ≤ i → before + left ≤ 2 ^ 20 → 0 < left → p may.No ≡ true → position_from p page (take left (drop before (spread (drop i runs) ++ none_granted))) ≡ Some page
    found_past l h some e = all_none l h ∙ run_passes p left page may.No [] e some

    pub not_past : length runs ≤ i → before + left ≤ 2 ^ 20 → p may.No ≡ false → position_from p page (take left (drop before (spread (drop i runs) ++ none_granted))) ≡ None
    not_past l h e = all_none l h ∙ run_fails p left page may.No [] e

    pub none_left : left ≡ 0 → position_from p page (take left (drop before (spread (drop i runs) ++ none_granted))) ≡ None
    none_left e = rw e refl

-- pages that are put at the end, in a run of their own or in the last one
pub put_behind : (new old : List Run) (count : ℕ) (rights : Rights) → new ≡ old ++ record { count = count; rights = rights } ∷ [] → spread new ≡ spread old ++ replicate count rights
put_behind new old count rights e = ap spread e ∙ spread-append old _ ∙ ap (λ l. spread old ++ l) (append-nil (replicate count rights))

pub joined : (new old kept : List Run) (last : Run) (count sum : ℕ) (rights : Rights) → old ≡ kept ++ last ∷ [] → last.rights ≡ rights → sum ≡ last.count + count
    → new ≡ kept ++ record { count = sum; rights = rights } ∷ [] → spread new ≡ spread old ++ replicate count rights
joined new old kept last count sum rights o r s n =
    put_behind new kept sum rights n
    ∙ ap (λ m. spread kept ++ replicate m rights) s
    ∙ ap (λ l. spread kept ++ l) (sym (replicate-append-replicate last.count count rights))
    ∙ sym (append_assoc (spread kept) (replicate last.count rights) (replicate count rights))
    ∙ ap (λ l. l ++ replicate count rights) (sym (put_behind old kept last.count rights (o ∙ ap (λ x. kept ++ record { count = last.count; rights = x } ∷ []) r)))

-- runs made of the beginning of others, a range, and their end
module _ (first count : ℕ) (runs : List Run) (pages : List Rights) (fits : first + count ≤ 2 ^ 20) (is : rights_of_runs runs ≡ pages) where
  pub remade : (new b a none start rest : List Run) (range : List Rights) → none ≡ [] → start ≡ runs → rest ≡ runs → length range ≡ count
      → spread a ≡ spread none ++ map (changed Keep) (take first (spread start ++ none_granted)) → spread b ≡ spread a ++ range
      → spread new ≡ spread b ++ map (changed Keep) (take (2 ^ 20 - (first + count)) (drop (first + count) (spread rest ++ none_granted)))
      → rights_of_runs new ≡ with_range pages first count range
  remade new b a none start rest range none_is start_is rest_is size ea eb en =
      let all = spread runs ++ none_granted in
      let end = 2 ^ 20 - (first + count) in
      let made_a : spread a ≡ take first all = ea ∙ ap (λ l. spread l ++ map (changed Keep) (take first (spread start ++ none_granted))) none_is ∙ map_keep (take first (spread start ++ none_granted)) ∙ ap (λ l. take first (spread l ++ none_granted)) start_is in
      let made_b : spread b ≡ take first all ++ range = eb ∙ ap (λ l. l ++ range) made_a in
      let made : spread new ≡ (take first all ++ range) ++ take end (drop (first + count) all) =
      en ∙ ap (λ l. l ++ map (changed Keep) (take end (drop (first + count) (spread rest ++ none_granted)))) made_b
      ∙ ap (λ l. (take first all ++ range) ++ l) (map_keep (take end (drop (first + count) (spread rest ++ none_granted))) ∙ ap (λ l. take end (drop (first + count) (spread l ++ none_granted))) rest_is) in
      replaced (2 ^ 20) first count all (spread new) range none_granted (enough (spread runs)) fits size made
      ∙ ap (λ v. take first v ++ range ++ drop (first + count) v) is

  pub part_seen : (start : List Run) → start ≡ runs → take count (drop first (spread start ++ none_granted)) ≡ take count (drop first pages)
  part_seen start e = ap (λ l. take count (drop first (spread l ++ none_granted))) e ∙ sym (part_of_first (2 ^ 20) first count (spread runs ++ none_granted) fits) ∙ ap (λ v. take count (drop first v)) is

  pub part_size : length (take count (drop first pages)) ≡ count
  part_size =
      let size : length pages ≡ 2 ^ 20 = ap length (sym is) ∙ length-take-le (2 ^ 20) (spread runs ++ none_granted) (enough (spread runs)) in
      length-take-le count (drop first pages) (omega (arith, length-drop first pages, size, fits))

-- ---- Ranges that are already as they should be

none_first : (b : Bool) (at : ℕ) (rest : Option ℕ) → cond b (Some at) rest ≡ None → (b ≡ false) × (rest ≡ None)
none_first true at rest e = absurd (cc)
none_first false at rest e = (refl, e)

none_changes : {A : Type 0} (p : A → Bool) (f : A → A) (xs : List A) (at : ℕ) → ((x : A) → p x ≡ false → f x ≡ x) → position_from p at xs ≡ None → map f xs ≡ xs
none_changes p f [] at h e = refl
none_changes p f (x ∷ xs) at h e =
    let first : (p x ≡ false) × (position_from p (at + 1) xs ≡ None) = none_first (p x) at (position_from p (at + 1) xs) e in
    λ j. h x first.0 j ∷ none_changes p f xs (at + 1) h first.1 j

map-same : {A : Type 0} (y : A) (xs : List A) → map (λ _. y) xs ≡ replicate (length xs) y
map-same y [] = refl
map-same y (x ∷ xs) = ap (λ l. y ∷ l) (map-same y xs)

same_range : {A : Type 0} (first count : ℕ) (pages : List A) → take first pages ++ take count (drop first pages) ++ drop (first + count) pages ≡ pages
same_range first count pages =
    append_assoc (take first pages) (take count (drop first pages)) (drop (first + count) pages)
    ∙ ap (λ l. take first pages ++ (take count (drop first pages) ++ l)) (sym (drop-drop count first pages))
    ∙ ap (λ l. take first pages ++ l) (take-append-drop count (drop first pages)) ∙ take-append-drop first pages

not_other : (to x : Rights) → is_sought (Other to) x ≡ false → to ≡ x
not_other may.No may.No e = refl
not_other may.No may.Read e = absurd (cc)
not_other may.No may.Write e = absurd (cc)
not_other may.Read may.No e = absurd (cc)
not_other may.Read may.Read e = refl
not_other may.Read may.Write e = absurd (cc)
not_other may.Write may.No e = absurd (cc)
not_other may.Write may.Read e = absurd (cc)
not_other may.Write may.Write e = refl

itself : (to : Rights) → is_sought (Other to) to ≡ false
itself may.No = refl
itself may.Read = refl
itself may.Write = refl

not_below : (x : Rights) → is_sought (Below may.Read) x ≡ false → lifted x ≡ x
not_below may.No e = absurd (cc)
not_below may.Read e = refl
not_below may.Write e = refl

module _ (first count : ℕ) (pages : List Rights) where
  pub granted_already : (to : Rights) → length (take count (drop first pages)) ≡ count → position_from (is_sought (Other to)) first (pages_in pages first count) ≡ None → pages ≡ granted pages first count to
  granted_already to size e =
      let range : replicate count to ≡ pages_in pages first count = ap (λ n. replicate n to) (sym size) ∙ sym (map-same to (pages_in pages first count)) ∙ none_changes (is_sought (Other to)) (λ _. to) (pages_in pages first count) first (not_other to) e in
      sym (ap (λ l. with_range pages first count l) range ∙ same_range first count pages)

  pub lifted_already : position_from (is_sought (Below may.Read)) first (pages_in pages first count) ≡ None → pages ≡ lifted_range pages first count
  lifted_already e = sym (ap (λ l. with_range pages first count l) (none_changes (is_sought (Below may.Read)) lifted (pages_in pages first count) first not_below e) ∙ same_range first count pages)

  pub none_other : (to : Rights) → pages_in pages first count ≡ replicate count to → position_from (is_sought (Other to)) first (pages_in pages first count) ≡ None
  none_other to e = ap (position_from (is_sought (Other to)) first) (e ∙ sym (append-nil (replicate count to))) ∙ run_fails (is_sought (Other to)) count first to [] (itself to)

pub is_missing : {A : Type 0} (o : Option A) (b : Bool) → is_some o ≡ not b → b ≡ true → o ≡ None
is_missing None b e t = refl
is_missing (Some x) b e t = let f : not b ≡ false = ap not t in absurd (cc)

pub not_missing : {A : Type 0} (o : Option A) (b : Bool) → is_some o ≡ not b → b ≡ false → o ≡ None → ⊥
not_missing None b e f n = let t : not b ≡ true = ap not f in absurd (cc)
not_missing (Some x) b e f n = absurd (cc)

-- ---- Spans

-- the run at an index, whose pages stand behind so many
module _ (runs : List Run) (i before : ℕ) (d : Run) (inside : i < length runs) (rest : (k : ℕ) → get_or (spread (drop i runs) ++ none_granted) k may.No ≡ get_or (spread runs ++ none_granted) (before + k) may.No) where
  pub rest_behind : (k : ℕ) → get_or (spread (drop (i + 1) runs) ++ none_granted) k may.No ≡ get_or (spread runs ++ none_granted) (before + (get_or runs i d).count + k) may.No
  rest_behind k =
      let back : (get_or runs i d).count + k - (get_or runs i d).count ≡ k = omega arith in
      let on : before + ((get_or runs i d).count + k) ≡ before + (get_or runs i d).count + k = omega arith in
      ap (λ n. get_or (spread (drop (i + 1) runs) ++ none_granted) n may.No) (sym back)
      ∙ behind_run runs i d ((get_or runs i d).count + k) inside (omega arith)
      ∙ rest ((get_or runs i d).count + k) ∙ ap (λ n. get_or (spread runs ++ none_granted) n may.No) on

  pub run_at : (page : ℕ) → before ≤ page → page < before + (get_or runs i d).count → get_or (spread runs ++ none_granted) page may.No ≡ (get_or runs i d).rights
  run_at page low high =
      let on : before + (page - before) ≡ page = omega arith in
      ap (λ n. get_or (spread runs ++ none_granted) n may.No) (sym on) ∙ sym (rest (page - before)) ∙ in_run runs i d (page - before) inside (omega arith)
