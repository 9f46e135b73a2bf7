-- The least forbidden address.
use Rattle.std.proofs.Common.{◌≡◌, ℕ, suc, ◌*◌, ◌<◌, ◌≤◌, Bool, true, false, cond, List, [], ◌∷◌, Some, None, option_map, refl, ap, subst, arith}
use Rattle.std.specs.Prelude.{nat_lt, min, ◌↔◌}
use Rattle.std.specs.List.{All, Any, Contains, AllByRecursion}
use Rattle.std.proofs.lemmas.Bool.Decides.{nat_tests}
use Rattle.std.proofs.lemmas.List.Elements.{All-from_recursion, All-contains}
use Rattle.paged_memory.specs.declared.access.Access.TheVariants.{Low, Fault}
use Rattle.paged_memory.specs.PageMap.{page_of, lower, least, access_at}

-- a number is the least of a list
record IsLeast (l : ℕ) (xs : List ℕ) : Type 0 where
  there : Contains xs l
  below : AllByRecursion (λ (y : ℕ). l ≤ y) xs

weaker : (a b : ℕ) (xs : List ℕ) → a ≤ b → AllByRecursion (λ (y : ℕ). b ≤ y) xs → AllByRecursion (λ (y : ℕ). a ≤ y) xs
weaker a b [] h all = tt
weaker a b (x ∷ xs) h all = (omega arith, weaker a b xs h all.1)

later : (x l : ℕ) (xs : List ℕ) → Contains xs l → Contains (x ∷ xs) l
later x l xs c = (suc c.0, omega arith, c.2)

chosen : (x l : ℕ) (xs : List ℕ) (b : Bool) → nat_lt l x ≡ b → IsLeast l xs → IsLeast (min x l) (x ∷ xs)
chosen x l xs true h is =
    let e : l ≡ min x l = grind (arith, nat_tests) in
    record { there = subst (Contains (x ∷ xs)) e (later x l xs is.there); below = (omega arith, subst (λ (a : ℕ). AllByRecursion (λ (y : ℕ). a ≤ y) xs) e is.below) }
chosen x l xs false h is =
    let e : x ≡ min x l = grind (arith, nat_tests) in
    record { there = subst (Contains (x ∷ xs)) e (0, omega arith, refl); below = (omega arith, weaker (min x l) l xs (omega arith) is.below) }

least_in : (x : ℕ) (xs : List ℕ) → IsLeast (lower x (least xs)) (x ∷ xs)
least_in x [] = record { there = (0, omega arith, refl); below = (omega arith, tt) }
least_in x (y ∷ ys) = chosen x (lower y (least ys)) (y ∷ ys) (nat_lt (lower y (least ys)) x) refl (least_in y ys)

pub allowed_law : (xs : List ℕ) → (option_map access_at (least xs) ≡ None) ↔ (xs ≡ [])
allowed_law [] = (λ _. refl, λ _. refl)
allowed_law (x ∷ xs) = (λ e. absurd (cc), λ e. absurd (cc))

low_access : (l : ℕ) (b : Bool) → nat_lt l 65536 ≡ b → Some (cond b Low (Fault (page_of l * 4096))) ≡ Some Low → l < 65536
low_access l true h e = grind (arith, nat_tests)
low_access l false h e = absurd (cc)

access_low : (l : ℕ) → l < 65536 → Some (access_at l) ≡ Some Low
access_low l h = let t : nat_lt l 65536 ≡ true = grind (arith, nat_tests) in ap (λ (b : Bool). Some (cond b Low (Fault (page_of l * 4096)))) t

fault_access : (l start : ℕ) (b : Bool) → nat_lt l 65536 ≡ b → Some (cond b Low (Fault (page_of l * 4096))) ≡ Some (Fault start) → start ≡ page_of l * 4096
fault_access l start true h e = absurd (cc)
fault_access l start false h e = cc

pub low_law : (xs : List ℕ) → (option_map access_at (least xs) ≡ Some Low) ↔ Any (λ (address : ℕ). address < 65536) xs
low_law [] = (λ e. absurd (cc), λ a. absurd (omega arith))
low_law (x ∷ xs) =
    let l : ℕ = lower x (least xs) in
    let is : IsLeast l (x ∷ xs) = least_in x xs in (
      λ e. (is.there.0, l, is.there.1, is.there.2, low_access l (nat_lt l 65536) refl e),
      λ a.
          let below : l ≤ a.1 = All-contains (λ (y : ℕ). l ≤ y) (x ∷ xs) a.1 (All-from_recursion (λ (y : ℕ). l ≤ y) (x ∷ xs) is.below) (a.0, a.2, a.3) in
          access_low l (omega arith),
    )

pub fault_law : (xs : List ℕ) (start : ℕ) → option_map access_at (least xs) ≡ Some (Fault start)
    → Any (λ (address : ℕ). (start ≡ page_of address * 4096) × All (λ (other : ℕ). address ≤ other) xs) xs
fault_law [] start e = absurd (cc)
fault_law (x ∷ xs) start e =
    let l : ℕ = lower x (least xs) in
    let is : IsLeast l (x ∷ xs) = least_in x xs in
    (is.there.0, l, is.there.1, is.there.2, (fault_access l start (nat_lt l 65536) refl e, All-from_recursion (λ (y : ℕ). l ≤ y) (x ∷ xs) is.below))
