-- A table of two levels, from pages to the keys of their frames, seen as the bytes at all addresses.
use Rattle.std.specs.Prelude.{◌≡◌, ◌≢◌, ℕ, ◌+◌, ◌*◌, ◌/◌, ◌%◌, ◌<◌, ◌≤◌, List, [], Option, Some, None, length, map, replicate, slice_index_or}
use Rattle.std.specs.List.{range_with_len}
use Rattle.slab.specs.Slab.{Slab, get}
use Rattle.page_frames.specs.PageBytes.{byte_of}

-- the bytes of a page that has no frame
unfoldable pub zero_page : List ℕ
zero_page = replicate 4096 0

-- the key of a page's frame
abbrev pub key_at : List (List (Option ℕ)) → ℕ → Option ℕ
key_at table page = slice_index_or (slice_index_or table (page / 1024) []) (page % 1024) None

abbrev pub bytes_or_zero : Option (List ℕ) → List ℕ
bytes_or_zero None = zero_page
bytes_or_zero (Some bytes) = bytes

abbrev pub bytes_at_key : Slab (List ℕ) → Option ℕ → List ℕ
bytes_at_key frames None = zero_page
bytes_at_key frames (Some key) = bytes_or_zero (get frames key)

-- the bytes of a page
abbrev pub page_bytes : List (List (Option ℕ)) → Slab (List ℕ) → ℕ → List ℕ
page_bytes table frames page = bytes_at_key frames (key_at table page)

abbrev pub byte_at : List (List (Option ℕ)) → Slab (List ℕ) → ℕ → ℕ
byte_at table frames address = byte_of (page_bytes table frames (address / 4096)) (address % 4096)

-- those at the addresses below a count
unfoldable pub bytes_below : ℕ → List (List (Option ℕ)) → Slab (List ℕ) → List ℕ
bytes_below count table frames = map (byte_at table frames) (range_with_len 0 count)

-- each key in the table has a frame, no two pages have the same, and a frame has the bytes of one page
pub record IsSound (table : List (List (Option ℕ))) (frames : Slab (List ℕ)) : Type 0 where
  pub live : (page key : ℕ) → key_at table page ≡ Some key → get frames key ≢ None
  pub sized : (key : ℕ) (bytes : List ℕ) → get frames key ≡ Some bytes → length bytes ≡ 4096
  pub apart : (page other key : ℕ) → key_at table page ≡ Some key → key_at table other ≡ Some key → page ≡ other

-- the bytes of one page are changed, and the others stay
pub record PageChanged (table : List (List (Option ℕ))) (frames : Slab (List ℕ)) (new_table : List (List (Option ℕ))) (new_frames : Slab (List ℕ)) (page : ℕ) (change : List ℕ → List ℕ) : Type 0 where
  pub sound : IsSound new_table new_frames
  pub here : page_bytes new_table new_frames page ≡ change (page_bytes table frames page)
  pub others : (other : ℕ) → other ≢ page → page_bytes new_table new_frames other ≡ page_bytes table frames other

-- the bytes of all pages stay, and so do their frames
pub record SamePages (table : List (List (Option ℕ))) (frames : Slab (List ℕ)) (new_table : List (List (Option ℕ))) (new_frames : Slab (List ℕ)) : Type 0 where
  pub sound : IsSound new_table new_frames
  pub pages : (page : ℕ) → page_bytes new_table new_frames page ≡ page_bytes table frames page
  pub held : (page : ℕ) → key_at table page ≢ None → key_at new_table page ≢ None

-- each of count pages from the first on has a frame
abbrev pub HaveFrames : List (List (Option ℕ)) → ℕ → ℕ → Type 0
HaveFrames table first count = (page : ℕ) → first ≤ page → page < first + count → key_at table page ≢ None

-- so it is with each page that n bytes from a place on touch
abbrev pub AreFramed : List (List (Option ℕ)) → ℕ → ℕ → Type 0
AreFramed table place n = (page : ℕ) → place / 4096 ≤ page → page * 4096 < place + n → key_at table page ≢ None
