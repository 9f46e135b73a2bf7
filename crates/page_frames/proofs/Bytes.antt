-- The bytes at all addresses after those of a page were changed.
use Rattle.std.proofs.Common.{◌≡◌, ◌≢◌, ◌⊎◌, inl, inr, ℕ, zero, suc, ◌+◌, ◌-◌, ◌*◌, ◌/◌, ◌%◌, ◌<◌, ◌≤◌, ◌^◌, List, [], Option, Some, None, length, take, drop, get_or, replicate, refl, sym, ap, ◌∙◌, arith, length-drop}
use Rattle.std.proofs.lemmas.Bool.{cases_eq}
use Rattle.std.proofs.lemmas.List.{length-replicate, get_or-replicate, length-take-le, get_or-take, get_or-drop, ext_get_or}
use Rattle.std.proofs.lemmas.List.FromFn.{get_or-map-range_with_len, fill_by_all, length-map-range_with_len}
use Rattle.slab.specs.Slab.{Slab, get}
use Rattle.page_frames.specs.PageBytes.{all_zero, byte_of, overwritten, IsMarked}
use Rattle.page_frames.specs.FrameTable.{key_at, bytes_at_key, bytes_or_zero, page_bytes, byte_at, bytes_below, IsSound, PageChanged, SamePages}
use Rattle.page_frames.proofs.Zeros.{zero_page_length, zero_byte, no_key}
use Rattle.page_frames.specs.WrittenLaws.{length-overwritten, byte_before, byte_in_new, byte_behind}

le_or_lt : (a b : ℕ) → (a ≤ b) ⊎ (b < a)
le_or_lt zero b = inl (omega arith)
le_or_lt (suc a) zero = inr (omega arith)
le_or_lt (suc a) (suc b) = elim (le_or_lt a b) [ inl h ↦ inl (omega arith) | inr h ↦ inr (omega arith) ]

module _ (count : ℕ) where
  pub get-below : (table : List (List (Option ℕ))) (frames : Slab (List ℕ)) (a : ℕ) → a < count → get_or (bytes_below count table frames) a 0 ≡ byte_at table frames a
  unfolding bytes_below
  get-below table frames a l = get_or-map-range_with_len (byte_at table frames) 0 count a a 0 l (omega arith)

  pub length-below : (table : List (List (Option ℕ))) (frames : Slab (List ℕ)) → length (bytes_below count table frames) ≡ count
  unfolding bytes_below
  length-below table frames = length-map-range_with_len (byte_at table frames) 0 count

  pub below_is : (table : List (List (Option ℕ))) (frames : Slab (List ℕ)) (xs : List ℕ) → length xs ≡ count → ((a : ℕ) → a < count → get_or xs a 0 ≡ byte_at table frames a) → bytes_below count table frames ≡ xs
  unfolding bytes_below
  below_is table frames xs l h = sym (fill_by_all (byte_at table frames) xs count 0 l h)

  pub below_none : (table : List (List (Option ℕ))) (frames : Slab (List ℕ)) → table ≡ [] → bytes_below count table frames ≡ replicate count 0
  below_none table frames e =
      below_is table frames (replicate count 0) (length-replicate count 0)
      (λ a l. get_or-replicate count a 0 0 l ∙ sym (zero_byte (a % 4096)) ∙ sym (ap (λ x. byte_at x frames a) e))

pub frame_size : (table : List (List (Option ℕ))) (frames : Slab (List ℕ)) (page : ℕ) → IsSound table frames → length (page_bytes table frames page) ≡ 4096
frame_size table frames page sound = elim (key_at table page) as (λ (o : Option ℕ). length (bytes_at_key frames o) ≡ 4096) [
  | None ↦ zero_page_length
  | Some key ↦ elim (get frames key) as (λ (o : Option (List ℕ)). get frames key ≡ o → length (bytes_or_zero o) ≡ 4096) [
    | None ↦ λ e. zero_page_length
    | Some bytes ↦ λ e. sound.sized key bytes e
  ] refl
]

module _ (count : ℕ) (table : List (List (Option ℕ))) (frames : Slab (List ℕ)) (new_table : List (List (Option ℕ))) (new_frames : Slab (List ℕ)) where
  pub below_same : SamePages table frames new_table new_frames → bytes_below count new_table new_frames ≡ bytes_below count table frames
  below_same s = below_is count new_table new_frames (bytes_below count table frames) (length-below count table frames) (λ a l. get-below count table frames a l ∙ ap (λ b. byte_of b (a % 4096)) (sym (s.pages (a / 4096))))

  -- bytes that are written in one page
  module _ (page place : ℕ) (bytes : List ℕ) (room : place + length bytes ≤ 4096) (within : (page + 1) * 4096 ≤ count) (sound : IsSound table frames)
      (s : PageChanged table frames new_table new_frames page (λ old. overwritten old place bytes)) where
    there : page * 4096 + place + length bytes ≤ length (bytes_below count table frames)
    there = omega (arith, length-below count table frames)

    fits : place + length bytes ≤ length (page_bytes table frames page)
    fits = omega (arith, frame_size table frames page sound)

    here : (a : ℕ) → a / 4096 ≡ page → byte_at new_table new_frames a ≡ get_or (overwritten (page_bytes table frames page) place bytes) (a % 4096) 0
    here a e = ap (λ q. byte_of (page_bytes new_table new_frames q) (a % 4096)) e ∙ ap (λ b. byte_of b (a % 4096)) s.here

    elsewhere : (a : ℕ) → a / 4096 ≢ page → byte_at table frames a ≡ byte_at new_table new_frames a
    elsewhere a n = ap (λ b. byte_of b (a % 4096)) (sym (s.others (a / 4096) n))

    -- a byte that is not written
    stays : (a : ℕ) → a < count → (a / 4096 ≡ page → get_or (overwritten (page_bytes table frames page) place bytes) (a % 4096) 0 ≡ get_or (page_bytes table frames page) (a % 4096) 0)
        → get_or (bytes_below count table frames) a 0 ≡ byte_at new_table new_frames a
    stays a l h = get-below count table frames a l ∙ elim (cases_eq (a / 4096) page) [
      | inl e ↦ ap (λ q. byte_of (page_bytes table frames q) (a % 4096)) e ∙ sym (h e) ∙ sym (here a e)
      | inr n ↦ elsewhere a n
    ]

    at : (a : ℕ) → a < count → get_or (overwritten (bytes_below count table frames) (page * 4096 + place) bytes) a 0 ≡ byte_at new_table new_frames a
    at a l = elim (le_or_lt (page * 4096 + place) a) [
      | inr low ↦
          byte_before (bytes_below count table frames) (page * 4096 + place) bytes there a low
          ∙ stays a l (λ e. byte_before (page_bytes table frames page) place bytes fits (a % 4096) (omega (arith, e)))
      | inl from ↦ elim (le_or_lt (page * 4096 + place + length bytes) a) [
        | inl past ↦
            byte_behind (bytes_below count table frames) (page * 4096 + place) bytes there a past
            ∙ stays a l (λ e. byte_behind (page_bytes table frames page) place bytes fits (a % 4096) (omega (arith, e)))
        | inr until ↦
            let e : a / 4096 ≡ page = omega arith in
            let i : a - (page * 4096 + place) ≡ a % 4096 - place = omega (arith, e) in
            byte_in_new (bytes_below count table frames) (page * 4096 + place) bytes there a from until
            ∙ ap (λ n. get_or bytes n 0) i
            ∙ sym (byte_in_new (page_bytes table frames page) place bytes fits (a % 4096) (omega (arith, e)) (omega (arith, e)))
            ∙ sym (here a e)
      ]
    ]

    pub below_written : bytes_below count new_table new_frames ≡ overwritten (bytes_below count table frames) (page * 4096 + place) bytes
    below_written =
        below_is count new_table new_frames (overwritten (bytes_below count table frames) (page * 4096 + place) bytes)
        (length-overwritten (bytes_below count table frames) (page * 4096 + place) bytes there ∙ length-below count table frames) at

-- a page with a byte that is not zero has a frame
pub marked : (table : List (List (Option ℕ))) (frames : Slab (List ℕ)) (count page : ℕ) → (page + 1) * 4096 ≤ count → IsMarked (byte_of (bytes_below count table frames)) page → key_at table page ≢ None
marked table frames count page within m e =
    let small : m.0 < 4096 = m.1 in
    let p : (page * 4096 + m.0) / 4096 ≡ page = omega arith in
    m.2 (get-below count table frames (page * 4096 + m.0) (omega arith)
    ∙ ap (λ q. byte_of (page_bytes table frames q) ((page * 4096 + m.0) % 4096)) p
    ∙ ap (λ b. byte_of b ((page * 4096 + m.0) % 4096)) (no_key table frames page e) ∙ zero_byte ((page * 4096 + m.0) % 4096))

pub below_zero : (table : List (List (Option ℕ))) (frames : Slab (List ℕ)) → table ≡ [] → bytes_below (2 ^ 32) table frames ≡ all_zero
unfolding all_zero
below_zero table frames e = below_none (2 ^ 32) table frames e

-- bytes that are read in one page
pub part_of_page : (count : ℕ) (table : List (List (Option ℕ))) (frames : Slab (List ℕ)) (page place n : ℕ) → place + n ≤ 4096 → (page + 1) * 4096 ≤ count → IsSound table frames
    → take n (drop place (page_bytes table frames page)) ≡ take n (drop (page * 4096 + place) (bytes_below count table frames))
part_of_page count table frames page place n room within sound =
    let small : length (take n (drop place (page_bytes table frames page))) ≡ n = length-take-le n (drop place (page_bytes table frames page)) (omega (arith, length-drop place (page_bytes table frames page), frame_size table frames page sound)) in
    let large : length (take n (drop (page * 4096 + place) (bytes_below count table frames))) ≡ n =
    length-take-le n (drop (page * 4096 + place) (bytes_below count table frames)) (omega (arith, length-drop (page * 4096 + place) (bytes_below count table frames), length-below count table frames)) in
    ext_get_or 0 (take n (drop place (page_bytes table frames page))) (take n (drop (page * 4096 + place) (bytes_below count table frames))) (small ∙ sym large)
    (λ i l.
    let inside : i < n = omega (arith, small) in
    let p : (page * 4096 + place + i) / 4096 ≡ page = omega arith in
    let q : (page * 4096 + place + i) % 4096 ≡ place + i = omega arith in
    get_or-take n (drop place (page_bytes table frames page)) i 0 inside ∙ get_or-drop place (page_bytes table frames page) i 0
    ∙ sym (get_or-take n (drop (page * 4096 + place) (bytes_below count table frames)) i 0 inside ∙ get_or-drop (page * 4096 + place) (bytes_below count table frames) i 0
    ∙ get-below count table frames (page * 4096 + place + i) (omega arith)
    ∙ (λ j. byte_of (page_bytes table frames (p j)) (q j))))
