-- Writes of bytes.
use Rattle.std.proofs.Common.{◌≡◌, ◌≢◌, inl, inr, ℕ, zero, suc, ◌+◌, ◌-◌, ◌/◌, ◌%◌, ◌^◌, ◌<◌, ◌≤◌, Bool, true, false, cond, List, [], ◌∷◌, ◌++◌, length, take, drop, Option, Some, None, option_map, refl, sym, ap, subst, ◌∙◌, arith}
use Rattle.std.specs.Prelude.{not, ◌&&◌, ◌||◌, ◌==◌, nat_le, slice_set, OnOk, OnErr, Result, Ok, Err}
use Rattle.std.proofs.lemmas.Bool.Decides.{nat_tests}
use Rattle.std.specs.List.{All}
use Rattle.std.specs.FinMap as fin
use Rattle.std.proofs.Math.Nat.{mod-eq_of_lt}
use Rattle.std.proofs.lemmas.Bool.{cases_eq}
use Rattle.std.proofs.lemmas.List.{length-set}
use Rattle.std.proofs.lemmas.List.Elements.{All-append, All-take, All-drop}
use Rattle.page_rights.specs.declared.rights.Rights.{Rights}
use Rattle.page_rights.specs.declared.rights.Rights.TheVariants as may
use Rattle.page_rights.specs.PageRights.{right_of_page}
use Rattle.page_frames.specs.PageBytes.{overwritten}
use Rattle.page_frames.specs.WrittenLaws.{length-overwritten, byte_before, byte_behind, nothing_written}
use Rattle.paged_memory.specs.declared.pages.Pages.{Pages}
use Rattle.paged_memory.specs.PageMap.{Page, Memory, page_of, rights, reaches, has, addresses, forbidden, least, access_at, refusal, put_in, put_byte, put_bytes, all_have, accessible}
use Rattle.paged_memory.specs.Seen.{visible_as, part_of, seen_from, seen, IsWhole}
use Rattle.paged_memory.proofs.Maps.{alike, inserted_there, inserted_other}
use Rattle.paged_memory.proofs.InPage.{split_address, allowed_in_page}
use Rattle.paged_memory.proofs.Parts.{le_or_lt, part_set, part_set_other, written_first}
use Rattle.paged_memory.proofs.Sight.{got, rights_seen}
use Rattle.paged_memory.proofs.RefusalLaws.{allowed_law}

abbrev page_with : ℕ → ℕ → Page → Page
page_with i b page = record page { bytes = slice_set page.bytes i b }

put_here : (m : Memory) (a b : ℕ) (o : Option Page) → fin.get m (page_of a) ≡ o → fin.get (put_in m a o b) (page_of a) ≡ option_map (page_with (a % 4096) b) o
put_here m a b None e = e
put_here m a b (Some page) e = inserted_there m (page_of a) (record page { bytes = slice_set page.bytes (a % 4096) b })

put_elsewhere : (m : Memory) (a b : ℕ) (o : Option Page) (q : ℕ) → q ≢ page_of a → fin.get (put_in m a o b) q ≡ fin.get m q
put_elsewhere m a b None q n = refl
put_elsewhere m a b (Some page) q n = inserted_other m (page_of a) (record page { bytes = slice_set page.bytes (a % 4096) b }) q n

visible_set : (r : Rights) (bytes : List ℕ) (i b : ℕ) → option_map (page_with i b) (visible_as r bytes) ≡ visible_as r (slice_set bytes i b)
visible_set may.No bytes i b = refl
visible_set may.Read bytes i b = refl
visible_set may.Write bytes i b = refl

put_seen : (rs : List Rights) (bs : List ℕ) (a b : ℕ) → a < length bs → put_byte (seen_from 0 rs bs) a b ≡ seen_from 0 rs (slice_set bs a b)
put_seen rs bs a b h = alike (put_byte (seen_from 0 rs bs) a b) (seen_from 0 rs (slice_set bs a b)) (λ q. elim (cases_eq q (page_of a)) [
  | inl s ↦
      ap (fin.get (put_byte (seen_from 0 rs bs) a b)) s ∙ put_here (seen_from 0 rs bs) a b (fin.get (seen_from 0 rs bs) (page_of a)) refl
      ∙ ap (option_map (page_with (a % 4096) b)) (got rs bs (page_of a))
      ∙ visible_set (right_of_page rs (page_of a)) (part_of bs (page_of a)) (a % 4096) b ∙ ap (visible_as (right_of_page rs (page_of a))) (sym (part_set bs a b h))
      ∙ sym (ap (fin.get (seen_from 0 rs (slice_set bs a b))) s ∙ got rs (slice_set bs a b) (page_of a))
  | inr n ↦
      put_elsewhere (seen_from 0 rs bs) a b (fin.get (seen_from 0 rs bs) (page_of a)) q n ∙ got rs bs q ∙ ap (visible_as (right_of_page rs q)) (sym (part_set_other bs a b q n))
      ∙ sym (got rs (slice_set bs a b) q)
])

pub put_all : (new : List ℕ) (rs : List Rights) (bs : List ℕ) (from : ℕ) → from + length new ≤ 2 ^ 32 → length bs ≡ 2 ^ 32 → seen_from 0 rs (overwritten bs from new) ≡ put_bytes (seen_from 0 rs bs) from new
unfolding put_bytes
put_all [] rs bs from h size = ap (seen_from 0 rs) (nothing_written bs from)
put_all (b ∷ new) rs bs from h size =
    let low : from < 2 ^ 32 = omega arith in
    let inside : from < length bs = omega (arith, size) in
    let w : from % 2 ^ 32 ≡ from = mod-eq_of_lt low in
    sym (ap (λ x. put_bytes (put_byte (seen_from 0 rs bs) x b) (from + 1) new) w
    ∙ ap (λ k. put_bytes k (from + 1) new) (put_seen rs bs from b inside)
    ∙ sym (put_all new rs (slice_set bs from b) (from + 1) (omega arith) (length-set bs from b ∙ size))
    ∙ ap (seen_from 0 rs) (written_first bs from b new inside))

-- ---- Where the right is

both_true : (a b : Bool) → (a && b) ≡ true → (a ≡ true) × (b ≡ true)
both_true true b e = (refl, e)
both_true false b e = absurd (cc)

pub each_has : (n : ℕ) (m : Memory) (need : Rights) (from : ℕ) → all_have m need from n ≡ true → (a : ℕ) → from ≤ a → a < from + n → has m need a ≡ true
unfolding all_have
each_has zero m need from h a l k = absurd (omega arith)
each_has (suc n) m need from h a l k =
    let both : (has m need from ≡ true) × (all_have m need (from + 1) n ≡ true) = both_true (has m need from) (all_have m need (from + 1) n) h in
    elim (le_or_lt (from + 1) a) [
      | inl later ↦ each_has n m need (from + 1) both.1 a later (omega arith)
      | inr now ↦ let e : a ≡ from = omega arith in ap (has m need) e ∙ both.0
    ]

pub write_reads : (r : Rights) → reaches r may.Write ≡ true → reaches r may.Read ≡ true
write_reads may.No h = absurd (cc)
write_reads may.Read h = refl
write_reads may.Write h = refl

first_free : (b : Bool) (x : ℕ) (xs : List ℕ) → cond (not b) (x ∷ xs) xs ≡ [] → (b ≡ true) × (xs ≡ [])
first_free true x xs e = (refl, e)
first_free false x xs e = absurd (cc)

free_each : (n : ℕ) (m : Memory) (need : Rights) (from : ℕ) → forbidden m need from n ≡ [] → (k : ℕ) → k < n → has m need ((from + k) % 2 ^ 32) ≡ true
unfolding addresses
free_each zero m need from h k l = absurd (omega arith)
free_each (suc n) m need from h zero l =
    let free : (has m need (from % 2 ^ 32) ≡ true) × (forbidden m need (from + 1) n ≡ []) = first_free (has m need (from % 2 ^ 32)) (from % 2 ^ 32) (forbidden m need (from + 1) n) h in
    let e : from + 0 ≡ from = omega arith in
    ap (λ x. has m need (x % 2 ^ 32)) e ∙ free.0
free_each (suc n) m need from h (suc k) l =
    let free : (has m need (from % 2 ^ 32) ≡ true) × (forbidden m need (from + 1) n ≡ []) = first_free (has m need (from % 2 ^ 32)) (from % 2 ^ 32) (forbidden m need (from + 1) n) h in
    let e : from + suc k ≡ from + 1 + k = omega arith in
    ap (λ x. has m need (x % 2 ^ 32)) e ∙ free_each n m need (from + 1) free.1 k (omega arith)

pub hidden_has : (p : Pages) (need : Rights) (a : ℕ) → reaches may.No need ≡ false → right_of_page p.rights (a / 4096) ≡ may.No → has (seen p) need a ≡ true → ⊥
hidden_has p need a none e h =
    let f : has (seen p) need a ≡ false = ap (λ r. reaches r need) (rights_seen p.rights p.bytes (a / 4096) ∙ e) ∙ none in
    absurd (cc)

-- an access that is allowed ends at or below 2 ^ 32, since the lowest pages have no rights
pub no_wrap : (p : Pages) (need : Rights) (from n : ℕ) → IsWhole p → reaches may.No need ≡ false → from < 2 ^ 32 → refusal (seen p) need from n ≡ None → from + n ≤ 2 ^ 32
no_wrap p need from n whole none low free = elim (le_or_lt (from + n) (2 ^ 32)) [
  | inl h ↦ h
  | inr h ↦
      let k : ℕ = 2 ^ 32 - from in
      let z : (from + (2 ^ 32 - from)) % 2 ^ 32 ≡ 0 = omega arith in
      let t : has (seen p) need ((from + (2 ^ 32 - from)) % 2 ^ 32) ≡ true = free_each n (seen p) need from ((allowed_law (forbidden (seen p) need from n)).0 free) (2 ^ 32 - from) (omega arith) in
      absurd (hidden_has p need 0 none (whole.low 0 (omega arith)) (sym (ap (has (seen p) need) z) ∙ t))
]

pub allowed_each : (p : Pages) (from n : ℕ) → from + n ≤ 2 ^ 32 → refusal (seen p) may.Write from n ≡ None → (a : ℕ) → from ≤ a → a < from + n → has (seen p) may.Read a ≡ true
allowed_each p from n room free a l h =
    let e : (from + (a - from)) % 2 ^ 32 ≡ a = omega arith in
    write_reads (rights (seen p) (page_of a)) (sym (ap (has (seen p) may.Write) e) ∙ free_each n (seen p) may.Write from ((allowed_law (forbidden (seen p) may.Write from n)).0 free) (a - from) (omega arith))

pub whole_written : (p : Pages) (from : ℕ) (new : List ℕ) → IsWhole p → from + length new ≤ 2 ^ 32 → All (λ b. b < 256) new → ((a : ℕ) → from ≤ a → a < from + length new → has (seen p) may.Read a ≡ true)
    → IsWhole (record { rights = p.rights; bytes = overwritten p.bytes from new })
whole_written p from new whole room small there =
    let fits : from + length new ≤ length p.bytes = omega (arith, whole.addresses) in
    let P : ℕ → Type 0 = λ b. b < 256 in
    record {
      pages = whole.pages;
      addresses = length-overwritten p.bytes from new fits ∙ whole.addresses;
      small = All-append P (take from p.bytes ++ new) (drop (from + length new) p.bytes) (All-append P (take from p.bytes) new (All-take P from p.bytes whole.small) small) (All-drop P (from + length new) p.bytes whole.small);
      low = whole.low;
      hidden =
          λ a e. elim (le_or_lt from a) [
            | inr before ↦ byte_before p.bytes from new fits a before ∙ whole.hidden a e
            | inl l ↦ elim (le_or_lt (from + length new) a) [
              | inl past ↦ byte_behind p.bytes from new fits a past ∙ whole.hidden a e
              | inr until ↦ absurd (hidden_has p may.Read a refl e (there a l until))
            ]
          ];
    }

-- ---- At the calls

-- an access to one page that has the right is not refused
pub allowed : (m : Memory) (need : Rights) (a n : ℕ) → reaches (rights m (page_of a)) need ≡ true → a < 2 ^ 32 → a % 4096 + n ≤ 4096 → refusal m need a n ≡ None
allowed m need a n r lt h =
    ap (λ (x : ℕ). refusal m need x n) (sym (split_address a))
    ∙ ap (λ xs. option_map access_at (least xs)) (allowed_in_page n m need (a / 4096) (a % 4096) r (omega arith) h)

pub put_empty : (m : Memory) (a : ℕ) (bs : List ℕ) → length bs ≡ 0 → put_bytes m a bs ≡ m
unfolding put_bytes
put_empty m a [] e = refl
put_empty m a (b ∷ bs) e = absurd (omega arith)

or_false : (a b : Bool) → a ≡ false → (a || b) ≡ true → b ≡ true
or_false true b f e = absurd (cc)
or_false false b f e = e

both_parts : (m : Memory) (need : Rights) (from n : ℕ) → accessible m need from n ≡ true → 0 < n → (nat_le (from + n) (2 ^ 32) ≡ true) × (all_have m need from n ≡ true)
both_parts m need from n h some =
    let there : (n == 0) ≡ false = grind (arith, nat_tests) in
    both_true (nat_le (from + n) (2 ^ 32)) (all_have m need from n) (or_false (n == 0) (nat_le (from + n) (2 ^ 32) && all_have m need from n) there h)

pub accessible_each : (m : Memory) (need : Rights) (from n : ℕ) → accessible m need from n ≡ true → (a : ℕ) → from ≤ a → a < from + n → has m need a ≡ true
accessible_each m need from n h a l k = each_has n m need from ((both_parts m need from n h (omega arith)).1) a l k

pub accessible_end : (m : Memory) (need : Rights) (from n : ℕ) → accessible m need from n ≡ true → 0 < n → from + n ≤ 2 ^ 32
accessible_end m need from n h some = let t = (both_parts m need from n h some).0 in grind (arith, nat_tests)

pub on_result : {T E : Type 0} (r : Result T E) {A B C : Type 0} → OnOk r A → OnErr r B → (A → C) → (B → C) → C
on_result (Ok x) a b f g = f a
on_result (Err e) a b f g = g b

pub whole_by : (p : Pages) (rs : List Rights) (bs : List ℕ) → rs ≡ p.rights → bs ≡ p.bytes → IsWhole p → IsWhole (record { rights = rs; bytes = bs })
whole_by p rs bs e f w = subst (λ r. IsWhole (record { rights = r; bytes = bs })) (sym e) (subst (λ b. IsWhole (record { rights = p.rights; bytes = b })) (sym f) w)

pub on_either : (b : Bool) {A B C : Type 0} → (b ≡ true → A) → (b ≡ false → B) → (A → C) → (B → C) → C
on_either true a b f g = f (a refl)
on_either false a b f g = g (b refl)
