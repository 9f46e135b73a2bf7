-- The last items of a list are the last of more of its last items.
use Rattle.std.proofs.Common.{◌≡◌, ℕ, ◌+◌, ◌-◌, ◌≤◌, List, [], ◌∷◌, ◌++◌, length, length-append, append_assoc, append-nil, drop, refl, ap, sym, ◌∙◌, arith, Result, Ok, Err}
use Rattle.std.specs.Prelude.{IsOk, is_ok, if◌then◌else◌}
use Rattle.std.proofs.lemmas.List.{drop-drop, drop_at, length-drop, drop-append-le, drop_all}
use Rattle.circular_buffer.specs.Buffer.{keep_last}

module _ {X : Type 0} where
  kept_of_rest : (n k : ℕ) (xs : List X) → k ≤ length xs - n → keep_last n (drop k xs) ≡ keep_last n xs
  kept_of_rest n k xs few =
      let rest : length (drop k xs) ≡ length xs - k = length-drop k xs in
      drop-drop (length (drop k xs) - n) k xs ∙ ap (λ (j : ℕ). drop j xs) (omega (arith, rest, few))

  -- those of the last more
  pub last_of_last : (n m : ℕ) (xs : List X) → n ≤ m → keep_last n (keep_last m xs) ≡ keep_last n xs
  last_of_last n m xs few = kept_of_rest n (length xs - m) xs (omega (arith, few))

  -- where one item comes after
  pub last_and_next : (n : ℕ) (xs : List X) (x : X) → keep_last n (keep_last n xs ++ (x ∷ [])) ≡ keep_last n (xs ++ (x ∷ []))
  last_and_next n xs x =
      let more : length (xs ++ (x ∷ [])) ≡ length xs + 1 = length-append xs (x ∷ []) in
      ap (keep_last n) (sym (drop-append-le (length xs - n) xs (x ∷ []) (omega arith))) ∙ kept_of_rest n (length xs - n) (xs ++ (x ∷ [])) (omega (arith, more))

  -- where some come after
  pub last_and_more : (n : ℕ) (xs ys : List X) → keep_last n (keep_last n xs ++ ys) ≡ keep_last n (xs ++ ys)
  last_and_more n xs [] = ap (keep_last n) (append-nil (keep_last n xs)) ∙ last_of_last n n xs (omega arith) ∙ ap (keep_last n) (sym (append-nil xs))
  last_and_more n xs (y ∷ ys) =
      ap (keep_last n) (sym (append_assoc (keep_last n xs) (y ∷ []) ys))
      ∙ sym (last_and_more n (keep_last n xs ++ (y ∷ [])) ys)
      ∙ ap (λ l. keep_last n (l ++ ys)) (last_and_next n xs y)
      ∙ last_and_more n (xs ++ (y ∷ [])) ys
      ∙ ap (keep_last n) (append_assoc xs (y ∷ []) ys)

  -- of lists that end alike
  pub alike_and_next : (n : ℕ) (xs ys : List X) (x : X) → keep_last n xs ≡ keep_last n ys → keep_last n (xs ++ (x ∷ [])) ≡ keep_last n (ys ++ (x ∷ []))
  alike_and_next n xs ys x e = sym (last_and_next n xs x) ∙ ap (λ l. keep_last n (l ++ (x ∷ []))) e ∙ last_and_next n ys x

  pub last_list : (n : ℕ) (xs ys : List X) → length ys ≡ n → keep_last n (xs ++ ys) ≡ ys
  last_list n xs ys size =
      let all : length (xs ++ ys) - n ≡ length xs = omega (arith, length-append xs ys, size) in
      ap (λ (k : ℕ). drop k (xs ++ ys)) all ∙ drop_at xs ys (length xs) refl

  pub last_few : (n : ℕ) (xs : List X) → length xs ≤ n → keep_last n xs ≡ xs
  last_few n xs few = let none : length xs - n ≡ 0 = omega arith in ap (λ (k : ℕ). drop k xs) none

  pub last_of_none : (n : ℕ) → keep_last {X = X} n [] ≡ []
  last_of_none n = drop_all (length {A = X} [] - n) [] (omega arith)

-- what is chosen where a call went through
pub if_ok : {T E X : Type 0} (r : Result T E) (one other : X) → IsOk r → (if is_ok r then one else other) ≡ one
if_ok (Ok x) one other h = refl
if_ok (Err e) one other h = absurd (cc)
