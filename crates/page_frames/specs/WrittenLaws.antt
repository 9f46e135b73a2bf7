-- Bytes in the place of others.
use Rattle.std.proofs.Common.{◌≡◌, ℕ, ◌+◌, ◌-◌, ◌<◌, ◌≤◌, List, [], ◌++◌, length, take, drop, get_or, sym, ap, ◌∙◌, arith, length-append, length-drop, append_assoc, append-nil}
use Rattle.std.proofs.lemmas.List.{length-take-le, get_or_append_left, get_or-append_right, get_or-take, get_or-drop, take_at, drop_at, drop-drop, take-append-drop}
use Rattle.page_frames.specs.PageBytes.{overwritten}

module _ (xs : List ℕ) (place : ℕ) (new : List ℕ) (fits : place + length new ≤ length xs) where
  start : length (take place xs) ≡ place
  start = length-take-le place xs (omega arith)

  front : length (take place xs ++ new) ≡ place + length new
  front = omega (arith, length-append (take place xs) new, start)

  pub length-overwritten : length (overwritten xs place new) ≡ length xs
  length-overwritten = omega (arith, length-append (take place xs ++ new) (drop (place + length new) xs), front, length-drop (place + length new) xs, fits)

  pub byte_before : (i : ℕ) → i < place → get_or (overwritten xs place new) i 0 ≡ get_or xs i 0
  byte_before i h =
      get_or_append_left (take place xs ++ new) (drop (place + length new) xs) 0 i (omega (arith, front))
      ∙ get_or_append_left (take place xs) new 0 i (omega (arith, start)) ∙ get_or-take place xs i 0 h

  pub byte_in_new : (i : ℕ) → place ≤ i → i < place + length new → get_or (overwritten xs place new) i 0 ≡ get_or new (i - place) 0
  byte_in_new i l h =
      get_or_append_left (take place xs ++ new) (drop (place + length new) xs) 0 i (omega (arith, front))
      ∙ get_or-append_right (take place xs) new place i 0 start l

  pub byte_behind : (i : ℕ) → place + length new ≤ i → get_or (overwritten xs place new) i 0 ≡ get_or xs i 0
  byte_behind i h =
      let back : place + length new + (i - (place + length new)) ≡ i = omega arith in
      get_or-append_right (take place xs ++ new) (drop (place + length new) xs) (place + length new) i 0 front h
      ∙ get_or-drop (place + length new) xs (i - (place + length new)) 0 ∙ ap (λ n. get_or xs n 0) back

  -- what is written behind what was written
  pub written_on : (more : List ℕ) → overwritten (overwritten xs place new) (place + length new) more ≡ overwritten xs place (new ++ more)
  written_on more =
      let both : length (new ++ more) ≡ length new + length more = length-append new more in
      let end : place + length new + length more ≡ place + length (new ++ more) = omega (arith, both) in
      let rest : drop (place + length new + length more) (overwritten xs place new) ≡ drop (place + length (new ++ more)) xs =
      sym (drop-drop (length more) (place + length new) (overwritten xs place new))
      ∙ ap (drop (length more)) (drop_at (take place xs ++ new) (drop (place + length new) xs) (place + length new) front)
      ∙ drop-drop (length more) (place + length new) xs ∙ ap (λ n. drop n xs) end in
      (λ j. take_at (take place xs ++ new) (drop (place + length new) xs) (place + length new) front j ++ more ++ rest j)
      ∙ ap (λ l. l ++ drop (place + length (new ++ more)) xs) (append_assoc (take place xs) new more)

pub overwritten_length : (xs new : List ℕ) (place n : ℕ) → length xs ≡ n → place + length new ≤ n → length (overwritten xs place new) ≡ n
overwritten_length xs new place n size fits = let room : place + length new ≤ length xs = omega arith in length-overwritten xs place new room ∙ size

pub nothing_written : (xs : List ℕ) (place : ℕ) → overwritten xs place [] ≡ xs
nothing_written xs place =
    let e : place + 0 ≡ place = omega arith in
    (λ j. append-nil (take place xs) j ++ drop (e j) xs) ∙ take-append-drop place xs
