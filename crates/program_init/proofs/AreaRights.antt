-- The front of an area may be read once the area's pages have their right, so that its bytes can be laid out.
use Rattle.std.proofs.Common.{◌≡◌, ◌≢◌, ℕ, ◌+◌, ◌<◌, ◌≤◌, ◌/◌, ◌%◌, ◌^◌, Bool, true, false, cond, refl, ap, ◌∙◌, arith}
use Rattle.std.specs.Prelude.{IsTrue, ◌&&◌, if◌then◌else◌}
use Rattle.std.proofs.lemmas.Bool.Decides.{nat_tests}
use Rattle.std.proofs.lemmas.Bool.{le-leb, lt-ltb}
use Rattle.page_rights.specs.declared.rights.Rights.{Rights}
use Rattle.page_rights.specs.declared.rights.Rights.TheVariants as may
use Rattle.page_rights.specs.PageRights.{reaches, within}
use Rattle.paged_memory.specs.PageMap.{Memory, page_of, rights, has, accessible, readable, set_pages}

-- what a law of the memory says of the rights of pages that were set
abbrev pub SetsRights : Type 0
SetsRights = (m : Memory) (first count page : ℕ) (to : Rights) (keep : Bool) → rights (set_pages m first count to keep) page ≡ (if within first count page then to else rights m page)

-- and another of bytes that have a right each
abbrev pub HavingAll : Type 0
HavingAll = (m : Memory) (need : Rights) (from n : ℕ) → from + n ≤ 2 ^ 32 → ((address : ℕ) → from ≤ address → address < from + n → IsTrue (has m need address)) → IsTrue (accessible m need from n)

may_read : (to : Rights) → to ≢ may.No → reaches to may.Read ≡ true
may_read may.No h = absurd (h refl)
may_read may.Read h = refl
may_read may.Write h = refl

one_within : (first count page : ℕ) → first ≤ page → page < first + count → within first count page ≡ true
one_within first count page low high = rw (le-leb first page low, lt-ltb page (first + count) high) refl

pub area_readable : SetsRights → HavingAll → (m : Memory) (start size n : ℕ) (to : Rights) → to ≢ may.No → start % 4096 ≡ 0 → size % 4096 ≡ 0 → start + size ≤ 2 ^ 32 → n ≤ size
    → IsTrue (readable (set_pages m (start / 4096) (size / 4096) to false) start n)
area_readable sets all m start size n to some from_page pages high room =
    all (set_pages m (start / 4096) (size / 4096) to false) may.Read start n (omega arith) (λ address low until.
    ap (λ (r : Rights). reaches r may.Read)
    (sets m (start / 4096) (size / 4096) (page_of address) to false
    ∙ ap (λ (b : Bool). cond b to (rights m (page_of address))) (one_within (start / 4096) (size / 4096) (page_of address) (omega arith) (omega arith)))
    ∙ may_read to some)
