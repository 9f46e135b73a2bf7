-- The bytes of one page among all.
use Rattle.std.proofs.Common.{◌≡◌, ◌≢◌, ◌⊎◌, inl, inr, ℕ, zero, suc, ◌+◌, ◌-◌, ◌*◌, ◌/◌, ◌%◌, ◌<◌, ◌≤◌, min, List, [], ◌∷◌, ◌++◌, length, take, drop, get_or, replicate, sym, ap, ◌∙◌, arith, length-drop}
use Rattle.std.specs.Prelude.{slice_set}
use Rattle.std.proofs.lemmas.Bool.{cases_eq}
use Rattle.std.proofs.lemmas.List.{length-take, length-replicate, get_or-take, get_or-drop, get_or-set_same, get_or-set_other, get_or-replicate, length-set, set_split, append_assoc, ext_get_or}
use Rattle.page_frames.specs.PageBytes.{overwritten, zeroed}
use Rattle.page_frames.specs.WrittenLaws.{byte_before, byte_in_new, byte_behind, length-overwritten, written_on}
use Rattle.paged_memory.specs.PageMap.{blank}
use Rattle.paged_memory.specs.Seen.{part_of}

pub le_or_lt : (a b : ℕ) → (a ≤ b) ⊎ (b < a)
le_or_lt zero b = inl (omega arith)
le_or_lt (suc a) zero = inr (omega arith)
le_or_lt (suc a) (suc b) = elim (le_or_lt a b) [ inl h ↦ inl (omega arith) | inr h ↦ inr (omega arith) ]

pub length-part_of : (xs : List ℕ) (q : ℕ) → length (part_of xs q) ≡ min 4096 (length xs - q * 4096)
length-part_of xs q = length-take 4096 (drop (q * 4096) xs) ∙ ap (min 4096) (length-drop (q * 4096) xs)

pub part_byte : (xs : List ℕ) (q i : ℕ) → i < 4096 → get_or (part_of xs q) i 0 ≡ get_or xs (q * 4096 + i) 0
part_byte xs q i h = get_or-take 4096 (drop (q * 4096) xs) i 0 h ∙ get_or-drop (q * 4096) xs i 0

-- pages whose bytes are the same
pub same_part : (xs ys : List ℕ) (q : ℕ) → length xs ≡ length ys → ((i : ℕ) → i < 4096 → q * 4096 + i < length xs → get_or xs (q * 4096 + i) 0 ≡ get_or ys (q * 4096 + i) 0) → part_of xs q ≡ part_of ys q
same_part xs ys q e h =
    let sizes : length (part_of xs q) ≡ length (part_of ys q) = length-part_of xs q ∙ ap (λ n. min 4096 (n - q * 4096)) e ∙ sym (length-part_of ys q) in
    ext_get_or 0 (part_of xs q) (part_of ys q) sizes
    (λ i l.
    let inside : i < 4096 = omega (arith, length-part_of xs q) in
    let there : q * 4096 + i < length xs = omega (arith, length-part_of xs q) in
    part_byte xs q i inside ∙ h i inside there ∙ sym (part_byte ys q i inside))

pub part_set_other : (xs : List ℕ) (a b q : ℕ) → q ≢ a / 4096 → part_of (slice_set xs a b) q ≡ part_of xs q
part_set_other xs a b q n =
    same_part (slice_set xs a b) xs q (length-set xs a b) (λ i l h. get_or-set_other xs a (q * 4096 + i) b 0 (λ e. n (omega (arith, e))))

pub part_set : (xs : List ℕ) (a b : ℕ) → a < length xs → part_of (slice_set xs a b) (a / 4096) ≡ slice_set (part_of xs (a / 4096)) (a % 4096) b
part_set xs a b h =
    let q : ℕ = a / 4096 in
    let size : length (part_of (slice_set xs a b) (a / 4096)) ≡ length (part_of xs (a / 4096)) = length-part_of (slice_set xs a b) (a / 4096) ∙ ap (λ n. min 4096 (n - a / 4096 * 4096)) (length-set xs a b) ∙ sym (length-part_of xs (a / 4096)) in
    ext_get_or 0 (part_of (slice_set xs a b) (a / 4096)) (slice_set (part_of xs (a / 4096)) (a % 4096) b) (size ∙ sym (length-set (part_of xs (a / 4096)) (a % 4096) b))
    (λ i l.
    let inside : i < 4096 = omega (arith, length-part_of (slice_set xs a b) (a / 4096)) in
    let place : a % 4096 < length (part_of xs (a / 4096)) = omega (arith, length-part_of xs (a / 4096)) in
    part_byte (slice_set xs a b) (a / 4096) i inside ∙ elim (cases_eq i (a % 4096)) [
      | inl s ↦
          let e : a / 4096 * 4096 + i ≡ a = omega (arith, s) in
          ap (λ n. get_or (slice_set xs a b) n 0) e ∙ get_or-set_same xs a b 0 h
          ∙ sym (ap (λ n. get_or (slice_set (part_of xs (a / 4096)) (a % 4096) b) n 0) s ∙ get_or-set_same (part_of xs (a / 4096)) (a % 4096) b 0 place)
      | inr n ↦
          get_or-set_other xs a (a / 4096 * 4096 + i) b 0 (λ e. n (omega (arith, e)))
          ∙ sym (get_or-set_other (part_of xs (a / 4096)) (a % 4096) i b 0 n ∙ part_byte xs (a / 4096) i inside)
    ])

-- the first of written bytes, and the others behind it
pub written_first : (xs : List ℕ) (from b : ℕ) (bs : List ℕ) → from < length xs → overwritten (slice_set xs from b) (from + 1) bs ≡ overwritten xs from (b ∷ bs)
written_first xs from b bs h =
    let next : suc from ≡ from + 1 = omega arith in
    let one : slice_set xs from b ≡ overwritten xs from (b ∷ []) =
    set_split xs from b h ∙ ap (λ n. take from xs ++ b ∷ drop n xs) next ∙ sym (append_assoc (take from xs) (b ∷ []) (drop (from + 1) xs)) in
    ap (λ l. overwritten l (from + 1) bs) one ∙ written_on xs from (b ∷ []) (omega arith) bs

-- pages that are made zero, and the others
module _ (xs : List ℕ) (first count : ℕ) (fits : (first + count) * 4096 ≤ length xs) where
  long : length (replicate {A = ℕ} (count * 4096) 0) ≡ count * 4096
  long = length-replicate {A = ℕ} (count * 4096) 0

  room : first * 4096 + length (replicate {A = ℕ} (count * 4096) 0) ≤ length xs
  room = omega (arith, long, fits)

  pub length-zeroed : length (zeroed xs first count) ≡ length xs
  length-zeroed = length-overwritten xs (first * 4096) (replicate (count * 4096) 0) room

  pub zeroed_byte : (a : ℕ) → first * 4096 ≤ a → a < (first + count) * 4096 → get_or (zeroed xs first count) a 0 ≡ 0
  zeroed_byte a l h =
      byte_in_new xs (first * 4096) (replicate (count * 4096) 0) room a l (omega (arith, long))
      ∙ get_or-replicate (count * 4096) (a - first * 4096) 0 0 (omega arith)

  pub byte_below : (a : ℕ) → a < first * 4096 → get_or (zeroed xs first count) a 0 ≡ get_or xs a 0
  byte_below a h = byte_before xs (first * 4096) (replicate (count * 4096) 0) room a h

  pub byte_above : (a : ℕ) → (first + count) * 4096 ≤ a → get_or (zeroed xs first count) a 0 ≡ get_or xs a 0
  byte_above a h = byte_behind xs (first * 4096) (replicate (count * 4096) 0) room a (omega (arith, long))

  pub part_below : (q : ℕ) → q < first → part_of (zeroed xs first count) q ≡ part_of xs q
  part_below q h = same_part (zeroed xs first count) xs q length-zeroed (λ i l m. byte_below (q * 4096 + i) (omega arith))

  pub part_above : (q : ℕ) → first + count ≤ q → part_of (zeroed xs first count) q ≡ part_of xs q
  part_above q h = same_part (zeroed xs first count) xs q length-zeroed (λ i l m. byte_above (q * 4096 + i) (omega arith))

-- a page whose bytes are zero
pub zero_part : (xs : List ℕ) (q : ℕ) → (q + 1) * 4096 ≤ length xs → ((i : ℕ) → i < 4096 → get_or xs (q * 4096 + i) 0 ≡ 0) → part_of xs q ≡ blank
unfolding blank
zero_part xs q within h =
    let size : length (part_of xs q) ≡ 4096 = omega (arith, length-part_of xs q) in
    let zeros : length (replicate {A = ℕ} 4096 0) ≡ 4096 = length-replicate {A = ℕ} 4096 0 in
    ext_get_or 0 (part_of xs q) (replicate 4096 0) (size ∙ sym zeros)
    (λ i l.
    let inside : i < 4096 = omega (arith, size) in
    part_byte xs q i inside ∙ h i inside ∙ sym (get_or-replicate 4096 i 0 0 inside))
