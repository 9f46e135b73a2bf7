-- Pages without frames.
use Rattle.std.proofs.Common.{◌≡◌, ℕ, zero, suc, ◌+◌, ◌-◌, ◌≤◌, List, Option, Some, None, length, take, drop, get_or, replicate, refl, sym, ap, ◌∙◌, arith}
use Rattle.std.proofs.lemmas.List.{length-replicate, drop-replicate, take-replicate}
use Rattle.slab.specs.Slab.{Slab, get}
use Rattle.page_frames.specs.FrameTable.{zero_page, key_at, page_bytes, bytes_at_key, bytes_or_zero}

all_the_same : (n i z : ℕ) → get_or (replicate n z) i z ≡ z
all_the_same zero i z = refl
all_the_same (suc n) zero z = refl
all_the_same (suc n) (suc i) z = all_the_same n i z

pub zero_page_length : length zero_page ≡ 4096
unfolding zero_page
zero_page_length = length-replicate {A = ℕ} 4096 0

pub zero_byte : (i : ℕ) → get_or zero_page i 0 ≡ 0
unfolding zero_page
zero_byte i = all_the_same 4096 i 0

pub zero_part : (i n : ℕ) → i + n ≤ 4096 → replicate n 0 ≡ take n (drop i zero_page)
unfolding zero_page
zero_part i n h = let room : n ≤ 4096 - i = omega arith in sym (ap (take n) (drop-replicate i 4096 0) ∙ take-replicate n (4096 - i) 0 room)

module _ (table : List (List (Option ℕ))) (frames : Slab (List ℕ)) (page : ℕ) where
  pub no_key : key_at table page ≡ None → page_bytes table frames page ≡ zero_page
  no_key e = ap (bytes_at_key frames) e

  pub no_frame : (key : ℕ) → key_at table page ≡ Some key → get frames key ≡ None → page_bytes table frames page ≡ zero_page
  no_frame key e n = ap (bytes_at_key frames) e ∙ ap bytes_or_zero n
