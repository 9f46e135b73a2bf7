-- Lists whose members pass a test, and the first that does not.
use Rattle.std.proofs.Common.{◌≡◌, ℕ, ◌+◌, Bool, true, false, List, [], ◌∷◌, ◌++◌, length, map, Some, find, refl, sym, ◌∙◌, arith}
use Rattle.std.specs.List.{list_all, prefix_len}
use Rattle.std.proofs.lemmas.Bool.{and_parts, and_from, cond-true, cond-false}

pub all-weaker : (p q : ℕ → Bool) → ((b : ℕ) → p b ≡ true → q b ≡ true) → (xs : List ℕ) → list_all p xs ≡ true → list_all q xs ≡ true
all-weaker p q w [] h = refl
all-weaker p q w (x ∷ xs) h =
    let parts = and_parts (p x) (list_all p xs) h in
    and_from (q x) (list_all q xs) (w x parts.0) (all-weaker p q w xs parts.1)

pub all-append : (p : ℕ → Bool) (xs ys : List ℕ) → list_all p xs ≡ true → list_all p ys ≡ true → list_all p (xs ++ ys) ≡ true
all-append p [] ys h k = k
all-append p (x ∷ xs) ys h k =
    let parts = and_parts (p x) (list_all p xs) h in
    and_from (p x) (list_all p (xs ++ ys)) parts.0 (all-append p xs ys parts.1 k)

-- how many pass from the front on
pub prefix-whole : (p : ℕ → Bool) (xs : List ℕ) → list_all p xs ≡ true → prefix_len p xs ≡ length xs
prefix-whole p [] h = refl
prefix-whole p (x ∷ xs) h =
    let parts = and_parts (p x) (list_all p xs) h in
    let more : prefix_len p xs ≡ length xs = prefix-whole p xs parts.1 in
    cond-true (p x) (1 + prefix_len p xs) 0 parts.0 ∙ omega arith

pub prefix-stops : (p : ℕ → Bool) (xs : List ℕ) (y : ℕ) (ys : List ℕ) → list_all p xs ≡ true → p y ≡ false → prefix_len p (xs ++ (y ∷ ys)) ≡ length xs
prefix-stops p [] y ys h no_more = cond-false (p y) (1 + prefix_len p ys) 0 no_more
prefix-stops p (x ∷ xs) y ys h no_more =
    let parts = and_parts (p x) (list_all p xs) h in
    let more : prefix_len p (xs ++ (y ∷ ys)) ≡ length xs = prefix-stops p xs y ys parts.1 no_more in
    cond-true (p x) (1 + prefix_len p (xs ++ (y ∷ ys))) 0 parts.0 ∙ omega arith

-- what is found passes the test
pub found-passes : {X : Type 0} (test : X → Bool) (x : X) (xs : List X) → find test xs ≡ Some x → test x ≡ true
found-passes test x [] e = absurd (cc e)
found-passes {X} test x (y ∷ ys) e =
    let by : (found : Bool) → test y ≡ found → test x ≡ true = λ found.
    elim found as (λ (b : Bool). test y ≡ b → test x ≡ true) [
      | true ↦ λ passes. let first : find test (y ∷ ys) ≡ Some y = rw passes refl in let same : y ≡ x = cc in rw (← same) passes
      | false ↦ λ fails. let later : find test (y ∷ ys) ≡ find test ys = rw fails refl in found-passes test x ys (sym later ∙ e)
    ] in
    by (test y) refl

-- what holds of each that may be found holds of what is found
pub found-holds : {X Y : Type 0} (P : Y → Type 0) (test : Y → Bool) (f : X → Y) → ((x : X) → P (f x)) → (y : Y) (xs : List X) → find test (map f xs) ≡ Some y → P y
found-holds P test f each y [] e = absurd (cc e)
found-holds {X} {Y} P test f each y (x ∷ xs) e =
    let by : (found : Bool) → test (f x) ≡ found → P y = λ found.
    elim found as (λ (b : Bool). test (f x) ≡ b → P y) [
      | true ↦ λ passes. let first : find test (map f (x ∷ xs)) ≡ Some (f x) = rw passes refl in let same : f x ≡ y = cc in rw (← same) (each x)
      | false ↦ λ fails. let later : find test (map f (x ∷ xs)) ≡ find test (map f xs) = rw fails refl in found-holds P test f each y xs (sym later ∙ e)
    ] in
    by (test (f x)) refl
