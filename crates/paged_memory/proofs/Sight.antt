-- What is seen of the rights and bytes that are kept.
use Rattle.std.proofs.Common.{◌≡◌, ◌≢◌, inl, inr, ℕ, zero, suc, ◌+◌, ◌*◌, ◌/◌, ◌%◌, ◌^◌, ◌<◌, ◌≤◌, List, [], ◌∷◌, length, take, drop, get_or, map, replicate, Some, None, refl, sym, ap, subst, ◌∙◌, arith, drop-cons}
use Rattle.std.specs.Ordering.{nat_cmp}
use Rattle.std.specs.List.{All}
use Rattle.std.specs.FinMap as fin
use Rattle.std.proofs.Math.Nat.{mod-eq_of_lt}
use Rattle.std.proofs.lemmas.List.{get_or_past, length-replicate}
use Rattle.std.proofs.lemmas.List.Elements.{All-take, All-drop, All-replicate}
use Rattle.page_rights.specs.declared.rights.Rights.{Rights}
use Rattle.page_rights.specs.declared.rights.Rights.TheVariants as may
use Rattle.page_rights.specs.PageRights.{none_granted, right_of_page, pages_in, lowest_below, reaches}
use Rattle.page_rights.specs.RangeLaws.{range_is, none_below}
use Rattle.page_frames.specs.PageBytes.{all_zero, byte_of}
use Rattle.paged_memory.specs.declared.pages.Pages.{Pages}
use Rattle.paged_memory.specs.PageMap.{AreMarked, HaveAlready, HaveRights, Read, Write, Page, Memory, HasWholePages, rights_in, rights, byte_in, byte, addresses, bytes_from}
use Rattle.paged_memory.specs.Seen.{visible_as, placed, part_of, seen_from, seen, IsWhole}
use Rattle.paged_memory.proofs.Maps.{alike, placed_there, placed_other}
use Rattle.paged_memory.proofs.InPage.{split_address}
use Rattle.paged_memory.proofs.Parts.{le_or_lt, length-part_of, part_byte}

pub rights_visible : (r : Rights) (bytes : List ℕ) → rights_in (visible_as r bytes) ≡ r
rights_visible may.No bytes = refl
rights_visible may.Read bytes = refl
rights_visible may.Write bytes = refl

got_from : (rs : List Rights) (bytes : List ℕ) (f i : ℕ) → fin.get (seen_from f rs bytes) (f + i) ≡ visible_as (get_or rs i may.No) (part_of bytes (f + i))
unfolding seen_from
got_from [] bytes f i = fin.get-empty nat_cmp (f + i)
got_from (r ∷ rs) bytes f zero =
    let e : f + 0 ≡ f = omega arith in
    ap (fin.get (placed (seen_from (suc f) rs bytes) f (visible_as r (part_of bytes f)))) e
    ∙ placed_there (seen_from (suc f) rs bytes) f (visible_as r (part_of bytes f)) ∙ ap (λ q. visible_as r (part_of bytes q)) (sym e)
got_from (r ∷ rs) bytes f (suc i) =
    let e : f + suc i ≡ suc f + i = omega arith in
    placed_other (seen_from (suc f) rs bytes) f (visible_as r (part_of bytes f)) (f + suc i) (λ s. absurd (omega (arith, s)))
    ∙ ap (fin.get (seen_from (suc f) rs bytes)) e ∙ got_from rs bytes (suc f) i ∙ ap (λ q. visible_as (get_or rs i may.No) (part_of bytes q)) (sym e)

-- what is seen at a page
pub got : (rs : List Rights) (bytes : List ℕ) (q : ℕ) → fin.get (seen_from 0 rs bytes) q ≡ visible_as (right_of_page rs q) (part_of bytes q)
got rs bytes q = let e : 0 + q ≡ q = omega arith in subst (λ x. fin.get (seen_from 0 rs bytes) x ≡ visible_as (get_or rs q may.No) (part_of bytes x)) e (got_from rs bytes 0 q)

pub rights_seen : (rs : List Rights) (bytes : List ℕ) (q : ℕ) → rights (seen_from 0 rs bytes) q ≡ right_of_page rs q
rights_seen rs bytes q = ap rights_in (got rs bytes q) ∙ rights_visible (right_of_page rs q) (part_of bytes q)

pub no_rights_past : (p : Pages) (q : ℕ) → IsWhole p → 2 ^ 20 ≤ q → may.No ≡ rights (seen p) q
no_rights_past p q whole h = sym (rights_seen p.rights p.bytes q ∙ get_or_past p.rights q may.No (omega (arith, whole.pages)))

byte_visible : (r : Rights) (bytes : List ℕ) (i x : ℕ) → get_or bytes i 0 ≡ x → (r ≡ may.No → x ≡ 0) → byte_in (visible_as r bytes) i ≡ x
byte_visible may.No bytes i x e h = sym (h refl)
byte_visible may.Read bytes i x e h = e
byte_visible may.Write bytes i x e h = e

pub byte_seen : (p : Pages) (a : ℕ) → IsWhole p → byte (seen p) a ≡ get_or p.bytes a 0
byte_seen p a whole =
    ap (λ o. byte_in o (a % 4096)) (got p.rights p.bytes (a / 4096))
    ∙ byte_visible (right_of_page p.rights (a / 4096)) (part_of p.bytes (a / 4096)) (a % 4096) (get_or p.bytes a 0)
    (part_byte p.bytes (a / 4096) (a % 4096) (omega arith) ∙ ap (λ n. get_or p.bytes n 0) (split_address a)) (whole.hidden a)

-- bytes that are seen not to be zero are so
pub marked_seen : (p : Pages) (a n : ℕ) → IsWhole p → AreMarked (byte (seen p)) a n → AreMarked (byte_of p.bytes) a n
marked_seen p a n whole m page low high = let k = m page low high in (k.0, k.1, λ e. k.2 (byte_seen p (page * 4096 + k.0) whole ∙ e))

-- pages that are seen to have these rights already
pub have_already : (p : Pages) (first count : ℕ) (to : Rights) → IsWhole p → first + count ≤ 2 ^ 20 → HaveAlready (seen p) first count to → pages_in p.rights first count ≡ replicate count to
have_already p first count to whole high have =
    range_is p.rights first count (omega (arith, whole.pages)) to (λ q l h. sym (rights_seen p.rights p.bytes q) ∙ have q l h)

-- pages that are seen to have some right
pub none_lifted : (p : Pages) (first count : ℕ) → IsWhole p → first + count ≤ 2 ^ 20 → HaveRights (seen p) first count → lowest_below p.rights first count may.Read ≡ None
none_lifted p first count whole high have =
    none_below p.rights first count (omega (arith, whole.pages)) may.Read (λ q l h. sym (ap (λ r. reaches r may.Read) (rights_seen p.rights p.bytes q)) ∙ have q l h)

same_Some : {A : Type 0} (x y : A) → Some x ≡ Some y → x ≡ y
same_Some x y e = cc

same_bytes : (x y : Page) → Some x ≡ Some y → y.bytes ≡ x.bytes
same_bytes x y e = ap {A = Page} (λ p. p.bytes) (sym (same_Some x y e))

visible_page : (r : Rights) (bytes : List ℕ) (page : Page) → visible_as r bytes ≡ Some page → (r ≢ may.No) × (page.bytes ≡ bytes)
visible_page may.No bytes page e = absurd (cc)
visible_page may.Read bytes page e = (λ n. absurd (cc), same_bytes (record { right = Read; bytes = bytes }) page e)
visible_page may.Write bytes page e = (λ n. absurd (cc), same_bytes (record { right = Write; bytes = bytes }) page e)

pub whole_seen : (p : Pages) → IsWhole p → HasWholePages (seen p)
whole_seen p whole q page e =
    let v : (right_of_page p.rights q ≢ may.No) × (page.bytes ≡ part_of p.bytes q) = visible_page (right_of_page p.rights q) (part_of p.bytes q) page (sym (got p.rights p.bytes q) ∙ e) in
    let high : q < 2 ^ 20 = elim (le_or_lt (2 ^ 20) q) [ inl h ↦ absurd (v.0 (get_or_past p.rights q may.No (omega (arith, whole.pages)))) | inr h ↦ h ] in
    let P : ℕ → Type 0 = λ b. b < 256 in
    record {
      low = elim (le_or_lt 16 q) [ inl h ↦ h | inr h ↦ absurd (v.0 (whole.low q h)) ];
      high = high;
      size = ap length v.1 ∙ omega (arith, length-part_of p.bytes q, whole.addresses);
      small = subst (λ xs. All P xs) (sym v.1) (All-take P 4096 (drop (q * 4096) p.bytes) (All-drop P (q * 4096) p.bytes whole.small));
    }

-- bytes that are read
pub bytes_read : (n : ℕ) (p : Pages) (a : ℕ) → IsWhole p → a + n ≤ 2 ^ 32 → take n (drop a p.bytes) ≡ bytes_from (seen p) a n
unfolding bytes_from
bytes_read zero p a whole h = refl
bytes_read (suc n) p a whole h =
    let front : drop a p.bytes ≡ get_or p.bytes a 0 ∷ drop (suc a) p.bytes = drop-cons p.bytes a 0 (omega (arith, whole.addresses)) in
    let e : suc a ≡ a + 1 = omega arith in
    ap (take (suc n)) front ∙ (λ j. sym (byte_seen p a whole) j ∷ (ap (λ x. take n (drop x p.bytes)) e ∙ bytes_read n p (a + 1) whole (omega arith)) j)

pub numbers_read : (n : ℕ) (p : Pages) (a : ℕ) → IsWhole p → a + n ≤ 2 ^ 32 → take n (drop a p.bytes) ≡ map (byte (seen p)) (addresses a n)
unfolding addresses
numbers_read zero p a whole h = refl
numbers_read (suc n) p a whole h =
    let front : drop a p.bytes ≡ get_or p.bytes a 0 ∷ drop (suc a) p.bytes = drop-cons p.bytes a 0 (omega (arith, whole.addresses)) in
    let e : suc a ≡ a + 1 = omega arith in
    let here : get_or p.bytes a 0 ≡ byte (seen p) (a % 2 ^ 32) = sym (byte_seen p a whole) ∙ ap (byte (seen p)) (sym (mod-eq_of_lt (omega arith))) in
    ap (take (suc n)) front ∙ (λ j. here j ∷ (ap (λ x. take n (drop x p.bytes)) e ∙ numbers_read n p (a + 1) whole (omega arith)) j)

all_the_same : {A : Type 0} (n i : ℕ) (x : A) → get_or (replicate n x) i x ≡ x
all_the_same zero i x = refl
all_the_same (suc n) zero x = refl
all_the_same (suc n) (suc i) x = all_the_same n i x

pub none_at : (q : ℕ) → right_of_page none_granted q ≡ may.No
unfolding none_granted
none_at q = all_the_same (2 ^ 20) q may.No

pub zero_at : (a : ℕ) → get_or all_zero a 0 ≡ 0
unfolding all_zero
zero_at a = all_the_same (2 ^ 32) a 0

pub seen_nothing : seen_from 0 none_granted all_zero ≡ fin.empty
seen_nothing = alike (seen_from 0 none_granted all_zero) fin.empty (λ q. got none_granted all_zero q ∙ ap (λ r. visible_as r (part_of all_zero q)) (none_at q) ∙ sym (fin.get-empty nat_cmp q))

pub whole_nothing : IsWhole (record { rights = none_granted; bytes = all_zero })
unfolding none_granted all_zero
whole_nothing = record {
  pages = length-replicate (2 ^ 20) may.No;
  addresses = length-replicate {A = ℕ} (2 ^ 32) 0;
  small = All-replicate (λ (b : ℕ). b < 256) (2 ^ 32) 0 (omega arith);
  low = λ q h. none_at q;
  hidden = λ a e. zero_at a;
}

pub bytes_from-empty : (m : Memory) (a : ℕ) (bs : List ℕ) → length bs ≡ 0 → bytes_from m a (length bs) ≡ bs
unfolding bytes_from
bytes_from-empty m a [] e = refl
bytes_from-empty m a (b ∷ bs) e = absurd (omega arith)
