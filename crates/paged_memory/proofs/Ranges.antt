-- Ranges of pages whose rights change.
use Rattle.std.proofs.Common.{◌≡◌, ◌≢◌, inl, inr, ℕ, zero, suc, ◌+◌, ◌*◌, ◌/◌, ◌^◌, ◌<◌, ◌≤◌, Bool, true, false, List, length, map, replicate, Option, Some, None, refl, sym, ap, ◌∙◌, arith}
use Rattle.std.specs.Prelude.{◌&&◌}
use Rattle.std.specs.FinMap as fin
use Rattle.std.proofs.lemmas.List.{length-replicate}
use Rattle.std.proofs.lemmas.List.Elements.{All-append, All-take, All-drop, All-replicate}
use Rattle.page_rights.specs.declared.rights.Rights.{Rights}
use Rattle.page_rights.specs.declared.rights.Rights.TheVariants as may
use Rattle.page_rights.specs.PageRights.{right_of_page, granted, lifted, lifted_range, pages_in}
use Rattle.page_rights.specs.RangeLaws.{before_range, past_range, granted_in, lifted_in, range_size, lifted_long}
use Rattle.page_frames.specs.PageBytes.{zeroed}
use Rattle.paged_memory.specs.declared.pages.Pages.{Pages}
use Rattle.paged_memory.specs.PageMap.{Page, Memory, reaches, blank, page_set, page_lifted, set_page, set_pages, lift_in, lift_page, lift_pages, HaveRights}
use Rattle.paged_memory.specs.Seen.{visible_as, part_of, seen_from, seen, IsWhole}
use Rattle.paged_memory.proofs.Maps.{alike, placed_there, placed_other, inserted_there, inserted_other}
use Rattle.paged_memory.proofs.Parts.{le_or_lt, zero_part, length-zeroed, zeroed_byte, byte_below, byte_above, part_below, part_above}
use Rattle.paged_memory.proofs.Sight.{got, rights_seen}

-- one page after another is changed
module _ (one : Memory → ℕ → Memory) (all : Memory → ℕ → ℕ → Memory) (change : Option Page → Option Page)
    (none : (m : Memory) (f : ℕ) → all m f 0 ≡ m) (more : (m : Memory) (f n : ℕ) → all m f (suc n) ≡ all (one m f) (f + 1) n)
    (here : (m : Memory) (p : ℕ) → fin.get (one m p) p ≡ change (fin.get m p)) (other : (m : Memory) (p q : ℕ) → q ≢ p → fin.get (one m p) q ≡ fin.get m q) where
  below : (n : ℕ) (m : Memory) (f q : ℕ) → q < f → fin.get (all m f n) q ≡ fin.get m q
  below zero m f q h = ap (λ x. fin.get x q) (none m f)
  below (suc n) m f q h = ap (λ x. fin.get x q) (more m f n) ∙ below n (one m f) (f + 1) q (omega arith) ∙ other m f q (λ e. absurd (omega (arith, e)))

  above : (n : ℕ) (m : Memory) (f q : ℕ) → f + n ≤ q → fin.get (all m f n) q ≡ fin.get m q
  above zero m f q h = ap (λ x. fin.get x q) (none m f)
  above (suc n) m f q h = ap (λ x. fin.get x q) (more m f n) ∙ above n (one m f) (f + 1) q (omega arith) ∙ other m f q (λ e. absurd (omega (arith, e)))

  inside : (n : ℕ) (m : Memory) (f q : ℕ) → f ≤ q → q < f + n → fin.get (all m f n) q ≡ change (fin.get m q)
  inside zero m f q l h = absurd (omega arith)
  inside (suc n) m f q l h = ap (λ x. fin.get x q) (more m f n) ∙ elim (le_or_lt (f + 1) q) [
    | inl k ↦ inside n (one m f) (f + 1) q k (omega arith) ∙ ap change (other m f q (λ e. absurd (omega (arith, e))))
    | inr k ↦
        let e : q ≡ f = omega arith in
        below n (one m f) (f + 1) q k ∙ ap (fin.get (one m f)) e ∙ here m f ∙ ap (λ x. change (fin.get m x)) (sym e)
  ]

set_here : (to : Rights) (keep : Bool) (m : Memory) (p : ℕ) → fin.get (set_page m p to keep) p ≡ page_set to keep (fin.get m p)
set_here may.No keep m p = placed_there m p None
set_here may.Read keep m p = inserted_there m p _
set_here may.Write keep m p = inserted_there m p _

set_other : (to : Rights) (keep : Bool) (m : Memory) (p q : ℕ) → q ≢ p → fin.get (set_page m p to keep) q ≡ fin.get m q
set_other may.No keep m p q n = placed_other m p None q n
set_other may.Read keep m p q n = inserted_other m p _ q n
set_other may.Write keep m p q n = inserted_other m p _ q n

module _ (to : Rights) (keep : Bool) where
  set_none : (m : Memory) (f : ℕ) → set_pages m f 0 to keep ≡ m
  unfolding set_pages
  set_none m f = refl

  set_more : (m : Memory) (f n : ℕ) → set_pages m f (suc n) to keep ≡ set_pages (set_page m f to keep) (f + 1) n to keep
  unfolding set_pages
  set_more m f n = refl

  pub set_below : (n : ℕ) (m : Memory) (f q : ℕ) → q < f → fin.get (set_pages m f n to keep) q ≡ fin.get m q
  set_below = below (λ m p. set_page m p to keep) (λ m f n. set_pages m f n to keep) (page_set to keep) set_none set_more (set_here to keep) (set_other to keep)

  pub set_above : (n : ℕ) (m : Memory) (f q : ℕ) → f + n ≤ q → fin.get (set_pages m f n to keep) q ≡ fin.get m q
  set_above = above (λ m p. set_page m p to keep) (λ m f n. set_pages m f n to keep) (page_set to keep) set_none set_more (set_here to keep) (set_other to keep)

  pub set_inside : (n : ℕ) (m : Memory) (f q : ℕ) → f ≤ q → q < f + n → fin.get (set_pages m f n to keep) q ≡ page_set to keep (fin.get m q)
  set_inside = inside (λ m p. set_page m p to keep) (λ m f n. set_pages m f n to keep) (page_set to keep) set_none set_more (set_here to keep) (set_other to keep)

lift_here_in : (m : Memory) (p : ℕ) (o : Option Page) → fin.get m p ≡ o → fin.get (lift_in m p o) p ≡ page_lifted o
lift_here_in m p None e = inserted_there m p _
lift_here_in m p (Some page) e = e

lift_other_in : (m : Memory) (p q : ℕ) (o : Option Page) → q ≢ p → fin.get (lift_in m p o) q ≡ fin.get m q
lift_other_in m p q None n = inserted_other m p _ q n
lift_other_in m p q (Some page) n = refl

lift_here : (m : Memory) (p : ℕ) → fin.get (lift_page m p) p ≡ page_lifted (fin.get m p)
lift_here m p = lift_here_in m p (fin.get m p) refl

lift_other : (m : Memory) (p q : ℕ) → q ≢ p → fin.get (lift_page m p) q ≡ fin.get m q
lift_other m p q n = lift_other_in m p q (fin.get m p) n

lift_none : (m : Memory) (f : ℕ) → lift_pages m f 0 ≡ m
unfolding lift_pages
lift_none m f = refl

lift_more : (m : Memory) (f n : ℕ) → lift_pages m f (suc n) ≡ lift_pages (lift_page m f) (f + 1) n
unfolding lift_pages
lift_more m f n = refl

pub lift_below : (n : ℕ) (m : Memory) (f q : ℕ) → q < f → fin.get (lift_pages m f n) q ≡ fin.get m q
lift_below = below lift_page lift_pages page_lifted lift_none lift_more lift_here lift_other

pub lift_above : (n : ℕ) (m : Memory) (f q : ℕ) → f + n ≤ q → fin.get (lift_pages m f n) q ≡ fin.get m q
lift_above = above lift_page lift_pages page_lifted lift_none lift_more lift_here lift_other

pub lift_inside : (n : ℕ) (m : Memory) (f q : ℕ) → f ≤ q → q < f + n → fin.get (lift_pages m f n) q ≡ page_lifted (fin.get m q)
lift_inside = inside lift_page lift_pages page_lifted lift_none lift_more lift_here lift_other

-- ---- What is seen after it

pub not_kept : (to : Rights) (keep : Bool) → (keep && reaches to may.Read) ≡ false → (o : Option Page) → page_set to keep o ≡ visible_as to blank
not_kept may.No keep e o = refl
not_kept may.Read false e o = refl
not_kept may.Read true e o = absurd (cc)
not_kept may.Write false e o = refl
not_kept may.Write true e o = absurd (cc)

pub is_kept : (to : Rights) (keep : Bool) → (keep && reaches to may.Read) ≡ true → (keep ≡ true) × (to ≢ may.No)
is_kept may.No true e = absurd (cc)
is_kept may.No false e = absurd (cc)
is_kept may.Read true e = (refl, λ n. absurd (cc))
is_kept may.Read false e = absurd (cc)
is_kept may.Write true e = (refl, λ n. absurd (cc))
is_kept may.Write false e = absurd (cc)

kept_page : (to r : Rights) (bytes : List ℕ) → to ≢ may.No → reaches r may.Read ≡ true → page_set to true (visible_as r bytes) ≡ visible_as to bytes
kept_page may.No r bytes n h = absurd (n refl)
kept_page may.Read may.No bytes n h = absurd (cc)
kept_page may.Read may.Read bytes n h = refl
kept_page may.Read may.Write bytes n h = refl
kept_page may.Write may.No bytes n h = absurd (cc)
kept_page may.Write may.Read bytes n h = refl
kept_page may.Write may.Write bytes n h = refl

lifted_page_is : (r : Rights) (bytes : List ℕ) → (r ≡ may.No → bytes ≡ blank) → visible_as (lifted r) bytes ≡ page_lifted (visible_as r bytes)
lifted_page_is may.No bytes h = ap (visible_as may.Write) (h refl)
lifted_page_is may.Read bytes h = refl
lifted_page_is may.Write bytes h = refl

module _ (p : Pages) (first count : ℕ) (whole : IsWhole p) (low : 16 ≤ first) (high : first + count ≤ 2 ^ 20) where
  room : first + count ≤ length p.rights
  room = omega (arith, whole.pages)

  space : (first + count) * 4096 ≤ length p.bytes
  space = omega (arith, whole.addresses)

  granted_below : (to : Rights) (q : ℕ) → q < first → right_of_page (granted p.rights first count to) q ≡ right_of_page p.rights q
  granted_below to q h = before_range p.rights first count room (replicate count to) q (length-replicate count to) h

  granted_above : (to : Rights) (q : ℕ) → first + count ≤ q → right_of_page (granted p.rights first count to) q ≡ right_of_page p.rights q
  granted_above to q h = past_range p.rights first count room (replicate count to) q (length-replicate count to) h

  pub set_kept : (to : Rights) → to ≢ may.No → HaveRights (seen p) first count → seen_from 0 (granted p.rights first count to) p.bytes ≡ set_pages (seen p) first count to true
  set_kept to n have = alike (seen_from 0 (granted p.rights first count to) p.bytes) (set_pages (seen p) first count to true) (λ q. got (granted p.rights first count to) p.bytes q ∙ elim (le_or_lt first q) [
    | inr before ↦ ap (λ r. visible_as r (part_of p.bytes q)) (granted_below to q before) ∙ sym (set_below to true count (seen p) first q before ∙ got p.rights p.bytes q)
    | inl from ↦ elim (le_or_lt (first + count) q) [
      | inl past ↦ ap (λ r. visible_as r (part_of p.bytes q)) (granted_above to q past) ∙ sym (set_above to true count (seen p) first q past ∙ got p.rights p.bytes q)
      | inr until ↦
          ap (λ r. visible_as r (part_of p.bytes q)) (granted_in p.rights first count room q to from until)
          ∙ sym (set_inside to true count (seen p) first q from until ∙ ap (page_set to true) (got p.rights p.bytes q)
          ∙ kept_page to (right_of_page p.rights q) (part_of p.bytes q) n (sym (ap (λ r. reaches r may.Read) (rights_seen p.rights p.bytes q)) ∙ have q from until))
    ]
  ])

  zeroed_in : (q : ℕ) → first ≤ q → q < first + count → part_of (zeroed p.bytes first count) q ≡ blank
  zeroed_in q from until =
      zero_part (zeroed p.bytes first count) q (omega (arith, length-zeroed p.bytes first count space, whole.addresses))
      (λ i l. zeroed_byte p.bytes first count space (q * 4096 + i) (omega arith) (omega arith))

  pub set_zeroed : (to : Rights) (keep : Bool) → ((o : Option Page) → page_set to keep o ≡ visible_as to blank)
      → seen_from 0 (granted p.rights first count to) (zeroed p.bytes first count) ≡ set_pages (seen p) first count to keep
  set_zeroed to keep clean = alike (seen_from 0 (granted p.rights first count to) (zeroed p.bytes first count)) (set_pages (seen p) first count to keep) (λ q. got (granted p.rights first count to) (zeroed p.bytes first count) q ∙ elim (le_or_lt first q) [
    | inr before ↦ (λ j. visible_as (granted_below to q before j) (part_below p.bytes first count space q before j)) ∙ sym (set_below to keep count (seen p) first q before ∙ got p.rights p.bytes q)
    | inl from ↦ elim (le_or_lt (first + count) q) [
      | inl past ↦ (λ j. visible_as (granted_above to q past j) (part_above p.bytes first count space q past j)) ∙ sym (set_above to keep count (seen p) first q past ∙ got p.rights p.bytes q)
      | inr until ↦
          (λ j. visible_as (granted_in p.rights first count room q to from until j) (zeroed_in q from until j))
          ∙ sym (set_inside to keep count (seen p) first q from until ∙ clean (fin.get (seen p) q))
    ]
  ])

  hidden_part : (q : ℕ) → q < 2 ^ 20 → right_of_page p.rights q ≡ may.No → part_of p.bytes q ≡ blank
  hidden_part q h e =
      zero_part p.bytes q (omega (arith, whole.addresses))
      (λ i l. let d : (q * 4096 + i) / 4096 ≡ q = omega arith in whole.hidden (q * 4096 + i) (ap (right_of_page p.rights) d ∙ e))

  lifted_size : length (map lifted (pages_in p.rights first count)) ≡ count
  lifted_size = lifted_long p.rights first count room

  lifted_below : (q : ℕ) → q < first → right_of_page (lifted_range p.rights first count) q ≡ right_of_page p.rights q
  lifted_below q h = before_range p.rights first count room (map lifted (pages_in p.rights first count)) q lifted_size h

  lifted_above : (q : ℕ) → first + count ≤ q → right_of_page (lifted_range p.rights first count) q ≡ right_of_page p.rights q
  lifted_above q h = past_range p.rights first count room (map lifted (pages_in p.rights first count)) q lifted_size h

  pub lift_seen : seen_from 0 (lifted_range p.rights first count) p.bytes ≡ lift_pages (seen p) first count
  lift_seen = alike (seen_from 0 (lifted_range p.rights first count) p.bytes) (lift_pages (seen p) first count) (λ q. got (lifted_range p.rights first count) p.bytes q ∙ elim (le_or_lt first q) [
    | inr before ↦ ap (λ r. visible_as r (part_of p.bytes q)) (lifted_below q before) ∙ sym (lift_below count (seen p) first q before ∙ got p.rights p.bytes q)
    | inl from ↦ elim (le_or_lt (first + count) q) [
      | inl past ↦ ap (λ r. visible_as r (part_of p.bytes q)) (lifted_above q past) ∙ sym (lift_above count (seen p) first q past ∙ got p.rights p.bytes q)
      | inr until ↦
          ap (λ r. visible_as r (part_of p.bytes q)) (lifted_in p.rights first count room q from until)
          ∙ lifted_page_is (right_of_page p.rights q) (part_of p.bytes q) (hidden_part q (omega arith))
          ∙ sym (lift_inside count (seen p) first q from until ∙ ap page_lifted (got p.rights p.bytes q))
    ]
  ])

  -- ---- All pages stay whole

  pub whole_kept : (to : Rights) → to ≢ may.No → IsWhole (record { rights = granted p.rights first count to; bytes = p.bytes })
  whole_kept to n = record {
    pages = range_size p.rights first count room (replicate count to) (length-replicate count to) ∙ whole.pages;
    addresses = whole.addresses;
    small = whole.small;
    low = λ q h. granted_below to q (omega arith) ∙ whole.low q h;
    hidden =
        λ a e. elim (le_or_lt first (a / 4096)) [
          | inr before ↦ whole.hidden a (sym (granted_below to (a / 4096) before) ∙ e)
          | inl from ↦ elim (le_or_lt (first + count) (a / 4096)) [
            | inl past ↦ whole.hidden a (sym (granted_above to (a / 4096) past) ∙ e)
            | inr until ↦ absurd (n (sym (granted_in p.rights first count room (a / 4096) to from until) ∙ e))
          ]
        ];
  }

  pub whole_zeroed : (to : Rights) → IsWhole (record { rights = granted p.rights first count to; bytes = zeroed p.bytes first count })
  whole_zeroed to = record {
    pages = range_size p.rights first count room (replicate count to) (length-replicate count to) ∙ whole.pages;
    addresses = length-zeroed p.bytes first count space ∙ whole.addresses;
    small =
        let P : ℕ → Type 0 = λ b. b < 256 in
        All-append P _ _ (All-append P _ _ (All-take P (first * 4096) p.bytes whole.small) (All-replicate P (count * 4096) 0 (omega arith))) (All-drop P _ p.bytes whole.small);
    low = λ q h. granted_below to q (omega arith) ∙ whole.low q h;
    hidden =
        λ a e. elim (le_or_lt first (a / 4096)) [
          | inr before ↦ byte_below p.bytes first count space a (omega arith) ∙ whole.hidden a (sym (granted_below to (a / 4096) before) ∙ e)
          | inl from ↦ elim (le_or_lt (first + count) (a / 4096)) [
            | inl past ↦ byte_above p.bytes first count space a (omega arith) ∙ whole.hidden a (sym (granted_above to (a / 4096) past) ∙ e)
            | inr until ↦ zeroed_byte p.bytes first count space a (omega arith) (omega arith)
          ]
        ];
  }

  lifted_none : (r : Rights) → lifted r ≡ may.No → ⊥
  lifted_none may.No e = absurd (cc)
  lifted_none may.Read e = absurd (cc)
  lifted_none may.Write e = absurd (cc)

  pub whole_lifted : IsWhole (record { rights = lifted_range p.rights first count; bytes = p.bytes })
  whole_lifted = record {
    pages = range_size p.rights first count room (map lifted (pages_in p.rights first count)) lifted_size ∙ whole.pages;
    addresses = whole.addresses;
    small = whole.small;
    low = λ q h. lifted_below q (omega arith) ∙ whole.low q h;
    hidden =
        λ a e. elim (le_or_lt first (a / 4096)) [
          | inr before ↦ whole.hidden a (sym (lifted_below (a / 4096) before) ∙ e)
          | inl from ↦ elim (le_or_lt (first + count) (a / 4096)) [
            | inl past ↦ whole.hidden a (sym (lifted_above (a / 4096) past) ∙ e)
            | inr until ↦ absurd (lifted_none (right_of_page p.rights (a / 4096)) (sym (lifted_in p.rights first count room (a / 4096) from until) ∙ e))
          ]
        ];
  }
