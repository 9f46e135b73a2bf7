-- What growing the heap does to the pages.
use Rattle.std.proofs.Common.{◌≡◌, ◌≢◌, ℕ, zero, suc, ◌+◌, ◌*◌, ◌<◌, ◌≤◌, ◌⊎◌, inl, inr, Bool, true, false, ap, sym, ◌∙◌, refl, arith, Option, Some, None}
use Rattle.std.specs.Prelude.{nat_lt, ◌==◌, if◌then◌else◌}
use Rattle.std.specs.FinMap as fin
use Rattle.std.proofs.lemmas.Bool.{cases_lt, le-ltb, lt-ltb, ne_eqb, eq-eqb, both_ways}
use Rattle.blob_decode.specs.Program.{Program, next}
use Rattle.paged_memory.specs.PageMap.{Memory, Page, page_of, lift_in, lift_page, lift_pages}
use Rattle.pvm_step.proofs.Pages.{inserted_there, inserted_other}
use Rattle.pvm_step.specs.Effect.{MachineState, Grows, after, with_register, grown, pages_touched}
use Rattle.pvm_step.specs.Named.{Touches, new_page}

-- ---- One page

same_or_not : (x y : ℕ) → (x ≡ y) ⊎ (x ≢ y)
same_or_not x y = elim (cases_lt x y) [ inl less ↦ inr (λ e. omega arith) | inr more ↦ elim (cases_lt y x) [ inl greater ↦ inr (λ e. omega arith) | inr less ↦ inl (omega arith) ] ]

lifted_there : (m : Memory) (k : ℕ) → fin.get m k ≡ None → fin.get (lift_page m k) k ≡ Some new_page
lifted_there m k none = ap (λ (o : Option Page). fin.get (lift_in m k o) k) none ∙ inserted_there m k new_page

lift_in-other : (m : Memory) (k q : ℕ) (o : Option Page) → q ≢ k → fin.get (lift_in m k o) q ≡ fin.get m q
lift_in-other m k q None far = inserted_other m k new_page q far
lift_in-other m k q (Some page) far = refl

apart : (o : Option Page) (page : Page) → o ≡ None → o ≡ Some page → ⊥
apart o page none some = cc

lift_in-some : (m : Memory) (k q : ℕ) (page : Page) (o : Option Page) → fin.get m k ≡ o → fin.get m q ≡ Some page → fin.get (lift_in m k o) q ≡ Some page
lift_in-some m k q page None at is = inserted_other m k new_page q (λ same. apart (fin.get m k) page at (ap (λ (j : ℕ). fin.get m j) (sym same) ∙ is)) ∙ is
lift_in-some m k q page (Some other) at is = is

-- ---- A range of pages

kept : (count : ℕ) (m : Memory) (first q : ℕ) (page : Page) → fin.get m q ≡ Some page → fin.get (lift_pages m first count) q ≡ Some page
unfolding lift_pages
kept zero m first q page is = is
kept (suc n) m first q page is = kept n (lift_page m first) (first + 1) q page (lift_in-some m first q page (fin.get m first) refl is)

outside : (count : ℕ) (m : Memory) (first q : ℕ) → (q < first) ⊎ (first + count ≤ q) → fin.get (lift_pages m first count) q ≡ fin.get m q
unfolding lift_pages
outside zero m first q out = refl
outside (suc n) m first q (inl low) = outside n (lift_page m first) (first + 1) q (inl (omega (arith, low))) ∙ lift_in-other m first q (fin.get m first) (λ same. omega (arith, low, same))
outside (suc n) m first q (inr high) = outside n (lift_page m first) (first + 1) q (inr (omega (arith, high))) ∙ lift_in-other m first q (fin.get m first) (λ same. omega (arith, high, same))

lifted : (count : ℕ) (m : Memory) (first q : ℕ) → first ≤ q → q < first + count → fin.get m q ≡ None → fin.get (lift_pages m first count) q ≡ Some new_page
unfolding lift_pages
lifted zero m first q low high none = absurd (omega (arith, low, high))
lifted (suc n) m first q low high none = elim (same_or_not q first) [
  | inl same ↦ kept n (lift_page m first) (first + 1) q new_page (ap (λ (j : ℕ). fin.get (lift_page m first) j) same ∙ lifted_there m first (ap (λ (j : ℕ). fin.get m j) (sym same) ∙ none))
  | inr far ↦ lifted n (lift_page m first) (first + 1) q (omega (arith, low, far)) (omega (arith, high)) (lift_in-other m first q (fin.get m first) far ∙ none)
]

-- ---- The heap

not_zero : (n : ℕ) → 0 < n → (n == 0) ≡ false
not_zero n some = ne_eqb n 0 (λ e. omega (arith, some, e))

not_none : (n : ℕ) → (n == 0) ≡ false → 0 < n
not_none n is = elim (cases_lt 0 n) [ inl some ↦ some | inr none ↦ absurd (both_ways (n == 0) is (eq-eqb n 0 (omega (arith, none)))) ]

-- a page is touched exactly where it is among those that are lifted
touched_first : (s : MachineState) (amount page : ℕ) → Touches s amount page → page_of s.heap.next ≤ page
touched_first s amount page t = omega (arith, t.1, t.2, t.3)

touched_last : (s : MachineState) (amount page : ℕ) → Touches s amount page → page < page_of s.heap.next + pages_touched s.heap.next (s.heap.next + amount)
touched_last s amount page t = omega (arith, t.1, t.2, t.3)

touches : (s : MachineState) (amount page : ℕ) → 0 < amount → page_of s.heap.next ≤ page → page < page_of s.heap.next + pages_touched s.heap.next (s.heap.next + amount) → Touches s amount page
touches s amount page some low high = elim (same_or_not page (page_of s.heap.next)) [
  | inl same ↦ (s.heap.next, omega arith, omega (arith, some), sym same)
  | inr far ↦ (page * 4096, omega (arith, low, far), omega (arith, low, far, high), omega arith)
]

grown_to : (p : Program) (s : MachineState) (register amount : ℕ) → 0 < amount → s.heap.next + amount ≤ s.heap.end
    → (after p s (Grows register amount)).state.memory ≡ lift_pages s.memory (page_of s.heap.next) (pages_touched s.heap.next (s.heap.next + amount))
unfolding after
grown_to p s register amount some room =
    ap (λ b. (if b then with_register s register s.heap.next else if nat_lt s.heap.end (s.heap.next + amount) then with_register s register 0 else with_register (grown s amount) register s.heap.next).memory) (not_zero amount some)
    ∙ ap (λ b. (if b then with_register s register 0 else with_register (grown s amount) register s.heap.next).memory) (le-ltb s.heap.end (s.heap.next + amount) room)

pub full : (p : Program) (s : MachineState) (register amount : ℕ) → 0 < amount → s.heap.end < s.heap.next + amount
    → (after p s (Grows register amount)).state ≡ record (with_register s register 0) { pc = next p s.pc }
unfolding after
full p s register amount some room =
    ap (λ b. record (if b then with_register s register s.heap.next else if nat_lt s.heap.end (s.heap.next + amount) then with_register s register 0 else with_register (grown s amount) register s.heap.next) { pc = next p s.pc }) (not_zero amount some)
    ∙ ap (λ b. record (if b then with_register s register 0 else with_register (grown s amount) register s.heap.next) { pc = next p s.pc }) (lt-ltb s.heap.end (s.heap.next + amount) room)

pub lifts : (p : Program) (s : MachineState) (register amount page : ℕ) → 0 < amount → s.heap.next + amount ≤ s.heap.end → Touches s amount page → fin.get s.memory page ≡ None
    → fin.get (after p s (Grows register amount)).state.memory page ≡ Some new_page
lifts p s register amount page some room t none =
    ap (λ (m : Memory). fin.get m page) (grown_to p s register amount some room)
    ∙ lifted (pages_touched s.heap.next (s.heap.next + amount)) s.memory (page_of s.heap.next) page (touched_first s amount page t) (touched_last s amount page t) none

-- no other page changes, in each of the three cases
spared_in : (s : MachineState) (amount page : ℕ) (o : Option Page) → 0 < amount → fin.get s.memory page ≡ o → (Touches s amount page → fin.get s.memory page ≡ None → ⊥)
    → fin.get (grown s amount).memory page ≡ fin.get s.memory page
spared_in s amount page (Some held) some is not = kept (pages_touched s.heap.next (s.heap.next + amount)) s.memory (page_of s.heap.next) page held is ∙ sym is
spared_in s amount page None some is not = elim (cases_lt page (page_of s.heap.next)) [
  | inl below ↦ outside (pages_touched s.heap.next (s.heap.next + amount)) s.memory (page_of s.heap.next) page (inl below)
  | inr from ↦ elim (cases_lt page (page_of s.heap.next + pages_touched s.heap.next (s.heap.next + amount))) [
    | inl within ↦ absurd (not (touches s amount page some from within) is)
    | inr past ↦ outside (pages_touched s.heap.next (s.heap.next + amount)) s.memory (page_of s.heap.next) page (inr past)
  ]
]

spared_by : (s : MachineState) (register amount page : ℕ) (b c : Bool) → (amount == 0) ≡ b → (Touches s amount page → fin.get s.memory page ≡ None → ⊥)
    → fin.get (if b then with_register s register s.heap.next else if c then with_register s register 0 else with_register (grown s amount) register s.heap.next).memory page ≡ fin.get s.memory page
spared_by s register amount page true c is not = refl
spared_by s register amount page false true is not = refl
spared_by s register amount page false false is not = spared_in s amount page (fin.get s.memory page) (not_none amount is) refl not

pub spares : (p : Program) (s : MachineState) (register amount page : ℕ) → (Touches s amount page → fin.get s.memory page ≡ None → ⊥)
    → fin.get (after p s (Grows register amount)).state.memory page ≡ fin.get s.memory page
unfolding after
spares p s register amount page not = spared_by s register amount page (amount == 0) (nat_lt s.heap.end (s.heap.next + amount)) refl not
