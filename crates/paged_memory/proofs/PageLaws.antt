-- Rights and bytes, page by page and byte by byte, after ranges were changed.
use Rattle.std.proofs.Common.{◌≡◌, inl, inr, ℕ, zero, suc, ◌+◌, ◌-◌, ◌%◌, ◌^◌, ◌<◌, ◌≤◌, Bool, true, false, cond, List, [], ◌∷◌, length, get_or, replicate, Option, Some, None, refl, sym, ap, ◌∙◌, arith}
use Rattle.std.specs.Prelude.{◌&&◌, ◌||◌, ◌==◌, nat_le, nat_lt}
use Rattle.std.specs.List.{All}
use Rattle.std.specs.FinMap as fin
use Rattle.std.proofs.lemmas.Bool.Decides.{nat_tests}
use Rattle.std.proofs.lemmas.List.Elements.{All-head, All-tail}
use Rattle.page_rights.specs.declared.rights.Rights.{Rights}
use Rattle.page_rights.specs.declared.rights.Rights.TheVariants as may
use Rattle.page_rights.specs.PageRights.{lifted, within}
use Rattle.paged_memory.specs.PageMap.{Right, Read, Write, Page, Memory, HasWholePages, page_of, rights_of, rights_in, rights, byte_in, byte, bytes_in, reaches, has, blank, page_set, page_lifted, set_pages, lift_pages, put_byte, put_bytes, all_have, accessible}
use Rattle.paged_memory.proofs.Parts.{le_or_lt}
use Rattle.paged_memory.proofs.Ranges.{set_below, set_above, set_inside, lift_below, lift_above, lift_inside}
use Rattle.paged_memory.proofs.ReadBack.{rights_put, there_law, untouched, whole_in}
use Rattle.paged_memory.proofs.Writing.{accessible_each, accessible_end}

-- what holds below, above and inside of a range
at_range : {A : Type 0} (x y z : A) (first count q : ℕ) (low high : Bool) → nat_le first q ≡ low → nat_lt q (first + count) ≡ high → (q < first → x ≡ z) → (first + count ≤ q → x ≡ z) → (first ≤ q → q < first + count → x ≡ y) → x ≡ cond (low && high) y z
at_range x y z first count q false high l h below above inside = below (grind (arith, nat_tests))
at_range x y z first count q true false l h below above inside = above (grind (arith, nat_tests))
at_range x y z first count q true true l h below above inside = inside (grind (arith, nat_tests)) (grind (arith, nat_tests))

all_the_same : (n i z : ℕ) → get_or (replicate n z) i z ≡ z
all_the_same zero i z = refl
all_the_same (suc n) zero z = refl
all_the_same (suc n) (suc i) z = all_the_same n i z

blank_byte : (i : ℕ) → get_or blank i 0 ≡ 0
unfolding blank
blank_byte i = all_the_same 4096 i 0

rights_of_set : (to : Rights) (keep : Bool) (o : Option Page) → rights_in (page_set to keep o) ≡ to
rights_of_set may.No keep o = refl
rights_of_set may.Read keep o = refl
rights_of_set may.Write keep o = refl

kept_byte : (o : Option Page) (i : ℕ) → get_or (bytes_in o) i 0 ≡ byte_in o i
kept_byte None i = blank_byte i
kept_byte (Some page) i = refl

byte_of_set : (to : Rights) (keep : Bool) (o : Option Page) (i : ℕ) → byte_in (page_set to keep o) i ≡ cond (keep && reaches to may.Read) (byte_in o i) 0
byte_of_set may.No true o i = refl
byte_of_set may.No false o i = refl
byte_of_set may.Read true o i = kept_byte o i
byte_of_set may.Read false o i = blank_byte i
byte_of_set may.Write true o i = kept_byte o i
byte_of_set may.Write false o i = blank_byte i

held_right : (r : Right) → rights_of r ≡ lifted (rights_of r)
held_right Read = refl
held_right Write = refl

rights_of_lifted : (o : Option Page) → rights_in (page_lifted o) ≡ lifted (rights_in o)
rights_of_lifted None = refl
rights_of_lifted (Some page) = held_right page.right

byte_of_lifted : (o : Option Page) (i : ℕ) → byte_in (page_lifted o) i ≡ byte_in o i
byte_of_lifted None i = blank_byte i
byte_of_lifted (Some page) i = refl

pub set_rights_law : (m : Memory) (first count page : ℕ) (to : Rights) (keep : Bool) → rights (set_pages m first count to keep) page ≡ cond (within first count page) to (rights m page)
set_rights_law m first count page to keep =
    at_range (rights (set_pages m first count to keep) page) to (rights m page) first count page (nat_le first page) (nat_lt page (first + count)) refl refl
    (λ h. ap rights_in (set_below to keep count m first page h)) (λ h. ap rights_in (set_above to keep count m first page h))
    (λ l h. ap rights_in (set_inside to keep count m first page l h) ∙ rights_of_set to keep (fin.get m page))

pub set_bytes_law : (m : Memory) (first count a : ℕ) (to : Rights) (keep : Bool) → byte (set_pages m first count to keep) a ≡ cond (within first count (page_of a)) (cond (keep && reaches to may.Read) (byte m a) 0) (byte m a)
set_bytes_law m first count a to keep =
    at_range (byte (set_pages m first count to keep) a) (cond (keep && reaches to may.Read) (byte m a) 0) (byte m a) first count (page_of a) (nat_le first (page_of a)) (nat_lt (page_of a) (first + count)) refl refl
    (λ h. ap (λ o. byte_in o (a % 4096)) (set_below to keep count m first (page_of a) h)) (λ h. ap (λ o. byte_in o (a % 4096)) (set_above to keep count m first (page_of a) h))
    (λ l h. ap (λ o. byte_in o (a % 4096)) (set_inside to keep count m first (page_of a) l h) ∙ byte_of_set to keep (fin.get m (page_of a)) (a % 4096))

pub lift_rights_law : (m : Memory) (first count page : ℕ) → rights (lift_pages m first count) page ≡ cond (within first count page) (lifted (rights m page)) (rights m page)
lift_rights_law m first count page =
    at_range (rights (lift_pages m first count) page) (lifted (rights m page)) (rights m page) first count page (nat_le first page) (nat_lt page (first + count)) refl refl
    (λ h. ap rights_in (lift_below count m first page h)) (λ h. ap rights_in (lift_above count m first page h))
    (λ l h. ap rights_in (lift_inside count m first page l h) ∙ rights_of_lifted (fin.get m page))

pub lift_bytes_law : (m : Memory) (first count a : ℕ) → byte (lift_pages m first count) a ≡ byte m a
lift_bytes_law m first count a = elim (le_or_lt first (page_of a)) [
  | inr before ↦ ap (λ o. byte_in o (a % 4096)) (lift_below count m first (page_of a) before)
  | inl from ↦ elim (le_or_lt (first + count) (page_of a)) [
    | inl past ↦ ap (λ o. byte_in o (a % 4096)) (lift_above count m first (page_of a) past)
    | inr until ↦ ap (λ o. byte_in o (a % 4096)) (lift_inside count m first (page_of a) from until) ∙ byte_of_lifted (fin.get m (page_of a)) (a % 4096)
  ]
]

put_inside : (bs : List ℕ) (m : Memory) (from a : ℕ) → HasWholePages m → All (λ (b : ℕ). b < 256) bs → from + length bs ≤ 2 ^ 32 → ((x : ℕ) → from ≤ x → x < from + length bs → has m may.Read x ≡ true)
    → from ≤ a → a < from + length bs → byte (put_bytes m from bs) a ≡ get_or bs (a - from) 0
unfolding put_bytes
put_inside [] m from a whole small room free l h = absurd (omega arith)
put_inside (b ∷ bs) m from a whole small room free l h =
    let w : from % 2 ^ 32 ≡ from = omega arith in
    let after : Memory = put_byte m (from % 2 ^ 32) b in
    let here : has m may.Read (from % 2 ^ 32) ≡ true = ap (has m may.Read) w ∙ free from (omega arith) (omega arith) in
    elim (le_or_lt (from + 1) a) [
      | inl later ↦
          let e : a - from ≡ suc (a - (from + 1)) = omega arith in
          put_inside bs (put_byte m (from % 2 ^ 32) b) (from + 1) a (whole_in m (from % 2 ^ 32) b (fin.get m (page_of (from % 2 ^ 32))) refl whole (All-head (λ (x : ℕ). x < 256) b bs small)) (All-tail (λ (x : ℕ). x < 256) b bs small) (omega arith)
          (λ x k i. ap (λ r. reaches r may.Read) (rights_put m (from % 2 ^ 32) b (page_of x)) ∙ free x (omega arith) (omega arith)) later (omega arith)
          ∙ ap (λ n. get_or (b ∷ bs) n 0) (sym e)
      | inr now ↦
          let e : a ≡ from % 2 ^ 32 = omega arith in
          let z : a - from ≡ 0 = omega arith in
          untouched bs (put_byte m (from % 2 ^ 32) b) (from + 1) a (λ k i s. absurd (omega (arith, s)))
          ∙ ap (byte (put_byte m (from % 2 ^ 32) b)) e ∙ there_law m (from % 2 ^ 32) b whole here ∙ ap (λ n. get_or (b ∷ bs) n 0) (sym z)
    ]

pub put_bytes_law : (m : Memory) (from : ℕ) (bs : List ℕ) (a : ℕ) → HasWholePages m → All (λ (b : ℕ). b < 256) bs → accessible m may.Read from (length bs) ≡ true → byte (put_bytes m from bs) a ≡ cond (within from (length bs) a) (get_or bs (a - from) 0) (byte m a)
put_bytes_law m from bs a whole small free =
    at_range (byte (put_bytes m from bs) a) (get_or bs (a - from) 0) (byte m a) from (length bs) a (nat_le from a) (nat_lt a (from + length bs)) refl refl
    (λ h. untouched bs m from a (λ k i s. let room : from + length bs ≤ 2 ^ 32 = accessible_end m may.Read from (length bs) free (omega arith) in absurd (omega (arith, s))))
    (λ h. untouched bs m from a (λ k i s. let room : from + length bs ≤ 2 ^ 32 = accessible_end m may.Read from (length bs) free (omega arith) in absurd (omega (arith, s))))
    (λ l h. put_inside bs m from a whole small (accessible_end m may.Read from (length bs) free (omega arith)) (accessible_each m may.Read from (length bs) free) l h)

-- where each byte has the right, all have
all_law : (n : ℕ) (m : Memory) (need : Rights) (from : ℕ) → ((a : ℕ) → from ≤ a → a < from + n → has m need a ≡ true) → all_have m need from n ≡ true
unfolding all_have
all_law zero m need from h = refl
all_law (suc n) m need from h = (λ j. h from (omega arith) (omega arith) j && all_law n m need (from + 1) (λ a l k. h a (omega arith) (omega arith)) j)

or_true : (a b : Bool) → b ≡ true → (a || b) ≡ true
or_true true b e = refl
or_true false b e = e

pub accessible_all : (m : Memory) (need : Rights) (from n : ℕ) → from + n ≤ 2 ^ 32 → ((a : ℕ) → from ≤ a → a < from + n → has m need a ≡ true) → accessible m need from n ≡ true
accessible_all m need from n room h =
    let t : nat_le (from + n) (2 ^ 32) ≡ true = grind (arith, nat_tests) in
    or_true (n == 0) (nat_le (from + n) (2 ^ 32) && all_have m need from n) (λ j. t j && all_law n m need from h j)
