-- Bytes that come in pieces, joined.
use Rattle.std.proofs.Common.{◌≡◌, ℕ, ◌+◌, ◌<◌, ◌≤◌, List, [], ◌∷◌, ◌++◌, length, take, drop, get_or, sym, ap, ◌∙◌, arith, length-append}
use Rattle.std.specs.List.{flat_map}
use Rattle.std.proofs.lemmas.List.{append-nil, take-append-drop, take_more}
use Rattle.std.proofs.lemmas.List.Concat.{flat_map-append}

-- one piece more
pub joined_more : {X : Type 0} (f : X → List ℕ) (pieces : List X) (i : ℕ) (d : X) → i < length pieces
    → flat_map f (take (i + 1) pieces) ≡ flat_map f (take i pieces) ++ f (get_or pieces i d)
joined_more f pieces i d below =
    let before : List ℕ = flat_map f (take i pieces) in
    let piece : List ℕ = f (get_or pieces i d) in
    ap (flat_map f) (take_more pieces i d below) ∙ flat_map-append f (take i pieces) (get_or pieces i d ∷ [])
    ∙ ap (λ (bytes : List ℕ). before ++ bytes) (append-nil piece)

-- the pieces so far and the next are no longer than all of them
pub joined_fits : {X : Type 0} (f : X → List ℕ) (pieces : List X) (i : ℕ) (d : X) → i < length pieces
    → length (flat_map f (take i pieces)) + length (f (get_or pieces i d)) ≤ length (flat_map f pieces)
joined_fits f pieces i d below =
    let front : List ℕ = flat_map f (take (i + 1) pieces) in
    let rest : List ℕ = flat_map f (drop (i + 1) pieces) in
    let whole : front ++ rest ≡ flat_map f pieces =
    sym (flat_map-append f (take (i + 1) pieces) (drop (i + 1) pieces)) ∙ ap (flat_map f) (take-append-drop (i + 1) pieces) in
    let next = joined_more f pieces i d below in
    omega (arith, ap length whole, length-append front rest, ap length next, length-append (flat_map f (take i pieces)) (f (get_or pieces i d)))
