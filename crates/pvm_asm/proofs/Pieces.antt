-- Pieces between marks, and where a mark stands.
use Rattle.std.proofs.Common.{◌≡◌, ◌<◌, ◌≤◌, ◌+◌, ◌==◌, ℕ, Bool, true, false, not, cond, List, [], ◌∷◌, length, take, drop, map, if◌then◌else◌, refl, sym, ap, ◌∙◌, subst, arith, suc}
use Rattle.std.specs.Option.{unwrap_or}
use Rattle.std.specs.List.{position, position_or_len}
use Rattle.std.proofs.lemmas.List.Sums.{prefix_len-le-length}
use Rattle.std.proofs.lemmas.Bool.Decides.{nat_tests}
use Rattle.pvm_asm.specs.Words.{pieces, begun_by, lines_of, ended_lines, without_return, only_word}

pub place_or_end : {X : Type 0} (p : X → Bool) (xs : List X) → unwrap_or (position p xs) (length xs) ≡ position_or_len p xs
place_or_end p xs =
    let most : position_or_len p xs ≤ length xs = prefix_len-le-length (λ x. not (p x)) xs in
    grind (arith, nat_tests)

abbrev mark_place : ℕ → List ℕ → ℕ
mark_place mark xs = position_or_len (λ b. b == mark) xs

-- the pieces are those before and after the first mark
pub pieces_split : (mark : ℕ) (xs : List ℕ) → mark_place mark xs < length xs → pieces mark xs ≡ take (mark_place mark xs) xs ∷ pieces mark (drop (mark_place mark xs + 1) xs)
unfolding pieces
pieces_split mark [] = λ within. absurd (omega arith)
pieces_split mark (x ∷ xs) =
    let k : ℕ = mark_place mark xs in
    let at : ℕ → ℕ → Type 0 = λ m n. begun_by x (pieces mark xs) ≡ take m (x ∷ xs) ∷ pieces mark (drop n (x ∷ xs)) in
    elim (x == mark) as (λ b. cond (not b) (1 + k) 0 < length (x ∷ xs)
    → (if b then [] ∷ pieces mark xs else begun_by x (pieces mark xs)) ≡ take (cond (not b) (1 + k) 0) (x ∷ xs) ∷ pieces mark (drop (cond (not b) (1 + k) 0 + 1) (x ∷ xs))) [
      | true ↦ λ within. refl
      | false ↦ λ within.
          let first : 1 + k ≡ suc k = omega arith in
          let second : 1 + k + 1 ≡ suc (k + 1) = omega arith in
          let before : k < length xs = omega arith in
          subst (λ m. at m (1 + k + 1)) (sym first) (subst (λ n. at (suc k) n) (sym second) (ap (begun_by x) (pieces_split mark xs before)))
    ]

-- where there is no mark, there is one piece
pub pieces_whole : (mark : ℕ) (xs : List ℕ) → mark_place mark xs ≡ length xs → pieces mark xs ≡ xs ∷ []
unfolding pieces
pieces_whole mark [] = λ none. refl
pieces_whole mark (x ∷ xs) =
    let k : ℕ = mark_place mark xs in
    elim (x == mark) as (λ b. cond (not b) (1 + k) 0 ≡ length (x ∷ xs) → (if b then [] ∷ pieces mark xs else begun_by x (pieces mark xs)) ≡ (x ∷ xs) ∷ []) [
      | true ↦ λ none. absurd (omega arith)
      | false ↦ λ none. let more : k ≡ length xs = omega arith in ap (begun_by x) (pieces_whole mark xs more)
    ]

-- there is at least one piece
pub pieces_some : (mark : ℕ) (xs : List ℕ) → (first : List ℕ) × (more : List (List ℕ)) × (pieces mark xs ≡ first ∷ more)
unfolding pieces
pieces_some mark [] = ([], [], refl)
pieces_some mark (x ∷ xs) =
    let (first, more, same) = pieces_some mark xs in
    elim (x == mark) as (λ b. (first : List ℕ) × (more : List (List ℕ)) × ((if b then [] ∷ pieces mark xs else begun_by x (pieces mark xs)) ≡ first ∷ more)) [
      | true ↦ ([], pieces mark xs, refl)
      | false ↦ (x ∷ first, more, ap (begun_by x) same)
    ]

ended_next : (line : List ℕ) (lines : List (List ℕ)) (first : List ℕ) (more : List (List ℕ)) → lines ≡ first ∷ more → ended_lines (line ∷ lines) ≡ without_return line ∷ ended_lines lines
ended_next line lines first more same = subst (λ ls. ended_lines (line ∷ ls) ≡ without_return line ∷ ended_lines ls) (sym same) refl

pub lines_split : (xs : List ℕ) (i : ℕ) → i ≡ mark_place 10 xs → i < length xs → lines_of xs ≡ without_return (take i xs) ∷ lines_of (drop (i + 1) xs)
lines_split xs i is within =
    let (first, more, same) = pieces_some 10 (drop (i + 1) xs) in
    let split : pieces 10 xs ≡ take i xs ∷ pieces 10 (drop (i + 1) xs) =
    subst (λ k. pieces 10 xs ≡ take k xs ∷ pieces 10 (drop (k + 1) xs)) (sym is) (pieces_split 10 xs (subst (λ k. k < length xs) is within)) in
    ap ended_lines split ∙ ended_next (take i xs) (pieces 10 (drop (i + 1) xs)) first more same

pub lines_last : (xs : List ℕ) → length xs ≡ mark_place 10 xs → lines_of xs ≡ xs ∷ []
lines_last xs none = ap ended_lines (pieces_whole 10 xs (sym none))

pub operands_split : (xs : List ℕ) (i : ℕ) → i ≡ mark_place 44 xs → i < length xs → map only_word (pieces 44 xs) ≡ only_word (take i xs) ∷ map only_word (pieces 44 (drop (i + 1) xs))
operands_split xs i is within =
    let split : pieces 44 xs ≡ take i xs ∷ pieces 44 (drop (i + 1) xs) =
    subst (λ k. pieces 44 xs ≡ take k xs ∷ pieces 44 (drop (k + 1) xs)) (sym is) (pieces_split 44 xs (subst (λ k. k < length xs) is within)) in
    ap (map only_word) split

pub operands_last : (xs : List ℕ) → length xs ≡ mark_place 44 xs → map only_word (pieces 44 xs) ≡ only_word xs ∷ []
operands_last xs none = ap (map only_word) (pieces_whole 44 xs (sym none))

pub operands_some : (xs : List ℕ) → (length (map only_word (pieces 44 xs)) == 0) ≡ false
operands_some xs =
    let (first, more, same) = pieces_some 44 xs in
    subst (λ ps. (length (map only_word ps) == 0) ≡ false) (sym same) (grind (arith, nat_tests))
