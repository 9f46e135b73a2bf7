-- Memories keep whole pages.
use Rattle.std.proofs.Common.{◌≡◌, ℕ, zero, suc, ◌/◌, ◌%◌, ◌<◌, Bool, cond, length, Some, None, Option, sym, ap, subst, ◌∙◌, inl, inr, arith}
use Rattle.std.specs.FinMap as fin
use Rattle.std.specs.Ordering.{nat_cmp}
use Rattle.std.specs.List.{All}
use Rattle.std.proofs.lemmas.List.{length-replicate}
use Rattle.std.proofs.lemmas.List.Elements.{All-replicate, All-cons, All-nil}
use Rattle.byte_numbers.specs.Numbers.{little_endian}
use Rattle.paged_memory.specs.PageMap.{Page, Memory, IsPage, HasWholePages, blank}
use Rattle.paged_memory.specs.Seen.{placed}
use Rattle.paged_memory.proofs.Maps.{same_or, get-placed, placed_there}

same_Some : {A : Type 0} (x y : A) → Some x ≡ Some y → x ≡ y
same_Some x y e = cc

pub whole_empty : HasWholePages fin.empty
whole_empty q p e = let n : None ≡ Some p = sym (fin.get-empty nat_cmp q) ∙ e in absurd (cc)

pub whole_placed : (m : Memory) (k : ℕ) (o : Option Page) → HasWholePages m → ((page : Page) → o ≡ Some page → IsPage k page) → HasWholePages (placed m k o)
whole_placed m k o whole h q p e = elim (same_or q k) [
  | inl s ↦
      let here : o ≡ Some p = sym (placed_there m k o) ∙ ap (λ (x : ℕ). fin.get (placed m k o) x) (sym s) ∙ e in
      subst (λ (x : ℕ). IsPage x p) (sym s) (h p here)
  | inr n ↦
      let there : fin.get m q ≡ Some p = sym (get-placed m k o q ∙ ap (λ (b : Bool). cond b o (fin.get m q)) n) ∙ e in
      whole q p there
]

pub whole_inserted : (m : Memory) (k : ℕ) (page : Page) → HasWholePages m → IsPage k page → HasWholePages (fin.insert m k page)
whole_inserted m k page whole h = whole_placed m k (Some page) whole (λ p e. subst (IsPage k) (same_Some page p e) h)

pub whole_removed : (m : Memory) (k : ℕ) → HasWholePages m → HasWholePages (fin.remove m k)
whole_removed m k whole = whole_placed m k None whole (λ p e. absurd (cc))

pub small_bytes : (n v : ℕ) → All (λ (b : ℕ). b < 256) (little_endian n v)
unfolding little_endian
small_bytes zero v = All-nil (λ (b : ℕ). b < 256)
small_bytes (suc n) v = All-cons (λ (b : ℕ). b < 256) (v % 256) (little_endian n (v / 256)) (omega arith) (small_bytes n (v / 256))

pub length-blank : length blank ≡ 4096
unfolding blank
length-blank = length-replicate {A = ℕ} 4096 0

small_blank : All (λ (b : ℕ). b < 256) blank
unfolding blank
small_blank = All-replicate (λ (b : ℕ). b < 256) 4096 0 (omega arith)
