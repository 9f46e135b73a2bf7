-- Accesses byte for byte.
use Rattle.std.proofs.Common.{◌≡◌, ℕ, zero, suc, ◌+◌, ◌-◌, ◌/◌, ◌%◌, ◌^◌, ◌<◌, ◌≤◌, Bool, true, false, cond, List, [], ◌∷◌, map, length, Some, None, Option, refl, sym, ap, subst, ◌∙◌, arith}
use Rattle.std.specs.Prelude.{not, ◌&&◌, IfOk}
use Rattle.std.specs.FinMap as fin
use Rattle.std.specs.List.{All}
use Rattle.std.proofs.lemmas.List.Elements.{All-get_or}
use Rattle.page_rights.specs.declared.rights.Rights.{Rights}
use Rattle.page_rights.specs.declared.rights.Rights.TheVariants as may
use Rattle.paged_memory.specs.declared.access.Access.{Access}
use Rattle.byte_numbers.specs.Numbers.{little_number}
use Rattle.paged_memory.specs.PageMap.{Page, Memory, HasWholePages, page_of, rights, reaches, byte_in, byte, has, addresses, forbidden, lower, least, all_have, bytes_from, unless, loaded, refusal}
use Rattle.byte_numbers.specs.NumberLaws.{one_byte_more}
use Rattle.paged_memory.proofs.InPage.{split_address, all_in_page}

-- the last place but some, counted from the front
forbidden_next : (m : Memory) (need : Rights) (a n : ℕ) (b : Bool) → has m need (a % 2 ^ 32) ≡ b → cond (not b) (a % 2 ^ 32 ∷ forbidden m need (a + 1) n) (forbidden m need (a + 1) n) ≡ forbidden m need a (suc n)
unfolding addresses
forbidden_next m need a n b h = ap (λ (t : Bool). cond (not t) (a % 2 ^ 32 ∷ forbidden m need (a + 1) n) (forbidden m need (a + 1) n)) (sym h)

pub lowest_more : (m : Memory) (need : Rights) (a k width x : ℕ) (low : Option ℕ) → k < width → x ≡ (a + k) % 2 ^ 32 → has m need x ≡ false
    → low ≡ least (forbidden m need (a + suc k) (width - suc k)) → Some (lower x low) ≡ least (forbidden m need (a + k) (width - k))
lowest_more m need a k width x low h is lacks low_is =
    let e : width - k ≡ suc (width - suc k) = omega arith in
    let s : a + k + 1 ≡ a + suc k = omega arith in
    (λ j. Some (lower (is j) (low_is j)))
    ∙ ap (λ (y : ℕ). least ((a + k) % 2 ^ 32 ∷ forbidden m need y (width - suc k))) (sym s)
    ∙ ap least (forbidden_next m need (a + k) (width - suc k) false (ap (has m need) (sym is) ∙ lacks))
    ∙ ap (λ (n : ℕ). least (forbidden m need (a + k) n)) (sym e)

pub lowest_same : (m : Memory) (need : Rights) (a k width x : ℕ) (low : Option ℕ) → k < width → x ≡ (a + k) % 2 ^ 32 → has m need x ≡ true
    → low ≡ least (forbidden m need (a + suc k) (width - suc k)) → low ≡ least (forbidden m need (a + k) (width - k))
lowest_same m need a k width x low h is there low_is =
    let e : width - k ≡ suc (width - suc k) = omega arith in
    let s : a + k + 1 ≡ a + suc k = omega arith in
    low_is
    ∙ ap (λ (y : ℕ). least (forbidden m need y (width - suc k))) (sym s)
    ∙ ap least (forbidden_next m need (a + k) (width - suc k) true (ap (has m need) (sym is) ∙ there))
    ∙ ap (λ (n : ℕ). least (forbidden m need (a + k) n)) (sym e)

pub byte_small : (m : Memory) (a : ℕ) → HasWholePages m → byte m a < 256
byte_small m a whole = elim (fin.get m (page_of a)) as (λ (o : Option Page). fin.get m (page_of a) ≡ o → byte_in o (a % 4096) < 256) [
  | None ↦ λ e. omega arith
  | Some page ↦ λ e.
      let w = whole (page_of a) page e in
      let l : length page.bytes ≡ 4096 = w.size in
      let small : All (λ (b : ℕ). b < 256) page.bytes = w.small in
      All-get_or (λ (b : ℕ). b < 256) page.bytes (a % 4096) 0 (omega arith) small
] refl

pub number_small : (n : ℕ) (m : Memory) (a : ℕ) → HasWholePages m → little_number (map (byte m) (addresses a n)) < 256 ^ n
unfolding addresses
number_small zero m a whole = omega arith
number_small (suc n) m a whole = one_byte_more n (byte m (a % 2 ^ 32)) (little_number (map (byte m) (addresses (a + 1) n))) (byte_small m (a % 2 ^ 32) whole) (number_small n m (a + 1) whole)

-- ---- Ranges in pieces

regrouped : (a b c : Bool) → (a && (b && c)) ≡ ((a && b) && c)
regrouped true b c = refl
regrouped false b c = refl

pub all_have-add : (n : ℕ) (m : Memory) (need : Rights) (a k : ℕ) → all_have m need a (n + k) ≡ (all_have m need a n && all_have m need (a + n) k)
unfolding all_have
all_have-add zero m need a k = ap (λ (x : ℕ). all_have m need a x) (omega arith) ∙ ap (λ (x : ℕ). all_have m need x k) (omega arith)
all_have-add (suc n) m need a k =
    let e : suc n + k ≡ suc (n + k) = omega arith in
    let s : a + 1 + n ≡ a + suc n = omega arith in
    ap (λ (x : ℕ). all_have m need a x) e
    ∙ ap (λ (b : Bool). has m need a && b) (all_have-add n m need (a + 1) k)
    ∙ ap (λ (x : ℕ). has m need a && (all_have m need (a + 1) n && all_have m need x k)) s
    ∙ regrouped (has m need a) (all_have m need (a + 1) n) (all_have m need (a + suc n) k)

-- ---- For a count that falls by one

prev : (P : ℕ → Type 0) (k : ℕ) → 0 < k → P k → P (suc (k - 1))
prev P k h p = let e : suc (k - 1) ≡ k = omega arith in subst P (sym e) p

pub lowest_more_at : (m : Memory) (need : Rights) (a k width x : ℕ) (low : Option ℕ) → 0 < k → k ≤ width → x ≡ (a + (k - 1)) % 2 ^ 32 → has m need x ≡ false
    → low ≡ least (forbidden m need (a + k) (width - k)) → Some (lower x low) ≡ least (forbidden m need (a + (k - 1)) (width - (k - 1)))
lowest_more_at m need a k width x low h room is lacks low_is =
    lowest_more m need a (k - 1) width x low (omega arith) is lacks (prev (λ (j : ℕ). low ≡ least (forbidden m need (a + j) (width - j))) k h low_is)

pub lowest_same_at : (m : Memory) (need : Rights) (a k width x : ℕ) (low : Option ℕ) → 0 < k → k ≤ width → x ≡ (a + (k - 1)) % 2 ^ 32 → has m need x ≡ true
    → low ≡ least (forbidden m need (a + k) (width - k)) → low ≡ least (forbidden m need (a + (k - 1)) (width - (k - 1)))
lowest_same_at m need a k width x low h room is there low_is =
    lowest_same m need a (k - 1) width x low (omega arith) is there (prev (λ (j : ℕ). low ≡ least (forbidden m need (a + j) (width - j))) k h low_is)

pub none_at_end : (m : Memory) (need : Rights) (a width : ℕ) → None ≡ least (forbidden m need (a + width) (width - width))
unfolding addresses
none_at_end m need a width = let e : width - width ≡ 0 = omega arith in rw e refl

-- ---- Piece by piece

pub lacks_at : (m : Memory) (need : Rights) (a n : ℕ) → 0 < n → has m need a ≡ false → all_have m need a n ≡ false
unfolding all_have
lacks_at m need a zero h l = absurd (omega arith)
lacks_at m need a (suc n) h l = ap (λ (b : Bool). b && all_have m need (a + 1) n) l

pub has_piece : (m : Memory) (need : Rights) (a n count : ℕ) → reaches (rights m (page_of a)) need ≡ true → count ≤ n → a % 4096 + count ≤ 4096 → all_have m need a n ≡ all_have m need (a + count) (n - count)
has_piece m need a n count r le room =
    let e : n ≡ count + (n - count) = omega arith in
    let here : all_have m need a count ≡ true = ap (λ (x : ℕ). all_have m need x count) (sym (split_address a)) ∙ all_in_page count m need (a / 4096) (a % 4096) r room in
    ap (λ (x : ℕ). all_have m need a x) e ∙ all_have-add count m need a (n - count) ∙ ap (λ (b : Bool). b && all_have m need (a + count) (n - count)) here

pub nothing_left : (m : Memory) (need : Rights) (a n : ℕ) → n ≤ 0 → all_have m need a n ≡ true
unfolding all_have
nothing_left m need a n h = let e : n ≡ 0 = omega arith in rw e refl

unless_small : (o : Option Access) (x bound : ℕ) → x < bound → IfOk (unless o x) (λ value. value < bound)
unless_small None x bound h = h
unless_small (Some access) x bound h = tt

pub loaded_small : (m : Memory) (a n : ℕ) → HasWholePages m → IfOk (loaded m a n) (λ value. value < 256 ^ n)
loaded_small m a n whole = unless_small (refusal m may.Read a n) (little_number (map (byte m) (addresses a n))) (256 ^ n) (number_small n m a whole)

pub bytes_from-empty : (m : Memory) (a : ℕ) (bs : List ℕ) → length bs ≡ 0 → bytes_from m a (length bs) ≡ bs
unfolding bytes_from
bytes_from-empty m a [] e = refl
bytes_from-empty m a (b ∷ bs) e = absurd (omega arith)
