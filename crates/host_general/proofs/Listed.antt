-- Pieces joined one after another.
use Rattle.std.proofs.Common.{◌≡◌, List, [], ◌∷◌, ◌++◌, ℕ, map, refl, ap, ◌∙◌}
use Rattle.std.specs.List.{flat_map, concat}
use Rattle.std.proofs.lemmas.List.Concat.{flat_map-cons}

pub joined_map : {X : Type 0} (f : X → List ℕ) (xs : List X) → flat_map f xs ≡ concat (map f xs)
joined_map f [] = refl
joined_map f (x ∷ xs) = flat_map-cons f x xs ∙ ap (λ (rest : List ℕ). f x ++ rest) (joined_map f xs)
