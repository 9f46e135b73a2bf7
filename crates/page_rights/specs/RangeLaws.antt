-- The rights of each page after those of a range were changed.
use Rattle.std.proofs.Common.{◌≡◌, ℕ, zero, suc, ◌+◌, ◌-◌, ◌<◌, ◌≤◌, Bool, true, false, cond, List, [], ◌∷◌, ◌++◌, length, map, take, drop, replicate, get_or, refl, sym, ap, ◌∙◌, arith, length-append, length-drop}
use Rattle.std.specs.Prelude.{nat_le, nat_lt, not, ◌&&◌, Some, None}
use Rattle.std.specs.List.{position_from}
use Rattle.std.proofs.lemmas.Bool.Decides.{nat_tests}
use Rattle.std.proofs.lemmas.List.{length-replicate, length-map, length-take-le, get_or_append_left, get_or-append_right, get_or-replicate, get_or-take, get_or-drop, ext_get_or}
use Rattle.page_rights.specs.declared.rights.Rights.{Rights}
use Rattle.page_rights.specs.declared.rights.Rights.TheVariants as may
use Rattle.page_rights.specs.PageRights.{right_of_page, with_range, granted, lifted, lifted_range, lowest_below, pages_in, reaches, within}

map-get : (xs : List Rights) (i : ℕ) → i < length xs → get_or (map lifted xs) i may.No ≡ lifted (get_or xs i may.No)
map-get [] i h = absurd (omega arith)
map-get (x ∷ xs) zero h = refl
map-get (x ∷ xs) (suc i) h = map-get xs i (omega arith)

-- what none of a list is, is not found
none_found : (test : Rights → Bool) (other : Rights) (xs : List Rights) (from : ℕ) → ((i : ℕ) → i < length xs → test (get_or xs i other) ≡ false) → position_from test from xs ≡ None
none_found test other [] from each = refl
none_found test other (x ∷ xs) from each =
    let first : test x ≡ false = each 0 (omega arith) in
    ap (λ b. cond b (Some from) (position_from test (from + 1) xs)) first ∙ none_found test other xs (from + 1) (λ i l. each (suc i) (omega arith))

module _ (pages : List Rights) (first count : ℕ) (fits : first + count ≤ length pages) where
  pub range_size : (range : List Rights) → length range ≡ count → length (with_range pages first count range) ≡ length pages
  range_size range size =
      let start : length (take first pages) ≡ first = length-take-le first pages (omega arith) in
      omega (arith, length-append (take first pages ++ range) (drop (first + count) pages), length-append (take first pages) range, length-drop (first + count) pages, start, size, fits)

  pub before_range : (range : List Rights) (page : ℕ) → length range ≡ count → page < first → right_of_page (with_range pages first count range) page ≡ right_of_page pages page
  before_range range page size h =
      let start : length (take first pages) ≡ first = length-take-le first pages (omega arith) in
      let inside : page < length (take first pages) = omega arith in
      let inner : page < length (take first pages ++ range) = omega (arith, length-append (take first pages) range) in
      get_or_append_left (take first pages ++ range) (drop (first + count) pages) may.No page inner
      ∙ get_or_append_left (take first pages) range may.No page inside ∙ get_or-take first pages page may.No h

  pub past_range : (range : List Rights) (page : ℕ) → length range ≡ count → first + count ≤ page → right_of_page (with_range pages first count range) page ≡ right_of_page pages page
  past_range range page size h =
      let start : length (take first pages) ≡ first = length-take-le first pages (omega arith) in
      let back : first + count + (page - (first + count)) ≡ page = omega arith in
      get_or-append_right (take first pages ++ range) (drop (first + count) pages) (first + count) page may.No (omega (arith, length-append (take first pages) range)) h
      ∙ get_or-drop (first + count) pages (page - (first + count)) may.No ∙ ap (λ n. get_or pages n may.No) back

  pub in_range : (range : List Rights) (page : ℕ) → length range ≡ count → first ≤ page → page < first + count → right_of_page (with_range pages first count range) page ≡ right_of_page range (page - first)
  in_range range page size from until =
      let start : length (take first pages) ≡ first = length-take-le first pages (omega arith) in
      let inner : page < length (take first pages ++ range) = omega (arith, length-append (take first pages) range) in
      get_or_append_left (take first pages ++ range) (drop (first + count) pages) may.No page inner
      ∙ get_or-append_right (take first pages) range first page may.No start from

  -- whatever is said of the page's place is computed from the tests
  at_page : (range : List Rights) (page : ℕ) (new : Rights) (low high : Bool) → length range ≡ count → (first ≤ page → page < first + count → get_or range (page - first) may.No ≡ new)
      → nat_le first page ≡ low → nat_lt page (first + count) ≡ high → right_of_page (with_range pages first count range) page ≡ cond (low && high) new (right_of_page pages page)
  at_page range page new false high size here l h = before_range range page size (grind (arith, nat_tests))
  at_page range page new true false size here l h = past_range range page size (grind (arith, nat_tests))
  at_page range page new true true size here l h =
      let from : first ≤ page = grind (arith, nat_tests) in
      let until : page < first + count = grind (arith, nat_tests) in
      in_range range page size from until ∙ here from until

  pub granted_page : (page : ℕ) (to : Rights) → right_of_page (granted pages first count to) page ≡ cond (within first count page) to (right_of_page pages page)
  granted_page page to = at_page (replicate count to) page to (nat_le first page) (nat_lt page (first + count)) (length-replicate count to) (λ l h. get_or-replicate count (page - first) to may.No (omega arith)) refl refl

  pub range_long : length (pages_in pages first count) ≡ count
  range_long = length-take-le count (drop first pages) (omega (arith, length-drop first pages))

  -- a page of the range by its place in it
  pub page_in_range : (i : ℕ) → i < count → get_or (pages_in pages first count) i may.No ≡ right_of_page pages (first + i)
  page_in_range i h = get_or-take count (drop first pages) i may.No h ∙ get_or-drop first pages i may.No

  -- a range of which each page has the same rights
  pub range_is : (to : Rights) → ((page : ℕ) → first ≤ page → page < first + count → right_of_page pages page ≡ to) → pages_in pages first count ≡ replicate count to
  range_is to each =
      ext_get_or may.No (pages_in pages first count) (replicate count to) (range_long ∙ sym (length-replicate count to))
      (λ i l.
      let inside : i < count = omega (arith, range_long) in
      page_in_range i inside ∙ each (first + i) (omega arith) (omega arith) ∙ sym (get_or-replicate count i to may.No inside))

  -- a range of which each page has the least rights
  pub none_below : (least : Rights) → ((page : ℕ) → first ≤ page → page < first + count → reaches (right_of_page pages page) least ≡ true) → lowest_below pages first count least ≡ None
  none_below least each =
      none_found (λ rights. not (reaches rights least)) may.No (pages_in pages first count) first
      (λ i l.
      let inside : i < count = omega (arith, range_long) in
      ap (λ r. not (reaches r least)) (page_in_range i inside) ∙ ap not (each (first + i) (omega arith) (omega arith)))

  pub lifted_long : length (map lifted (pages_in pages first count)) ≡ count
  lifted_long = length-map _ _ ∙ range_long

  pub lifted_here : (page : ℕ) → first ≤ page → page < first + count → get_or (map lifted (pages_in pages first count)) (page - first) may.No ≡ lifted (right_of_page pages page)
  lifted_here page l h =
      let place : page - first < count = omega arith in
      let back : first + (page - first) ≡ page = omega arith in
      map-get (pages_in pages first count) (page - first) (omega (arith, range_long))
      ∙ ap lifted (get_or-take count (drop first pages) (page - first) may.No place ∙ get_or-drop first pages (page - first) may.No ∙ ap (λ n. get_or pages n may.No) back)

  pub lifted_page : (page : ℕ) → right_of_page (lifted_range pages first count) page ≡ cond (within first count page) (lifted (right_of_page pages page)) (right_of_page pages page)
  lifted_page page = at_page (map lifted (pages_in pages first count)) page (lifted (right_of_page pages page)) (nat_le first page) (nat_lt page (first + count)) lifted_long (lifted_here page) refl refl

  pub granted_in : (page : ℕ) (to : Rights) → first ≤ page → page < first + count → right_of_page (granted pages first count to) page ≡ to
  granted_in page to from until = in_range (replicate count to) page (length-replicate count to) from until ∙ get_or-replicate count (page - first) to may.No (omega arith)

  pub lifted_in : (page : ℕ) → first ≤ page → page < first + count → right_of_page (lifted_range pages first count) page ≡ lifted (right_of_page pages page)
  lifted_in page from until = in_range (map lifted (pages_in pages first count)) page lifted_long from until ∙ lifted_here page from until
