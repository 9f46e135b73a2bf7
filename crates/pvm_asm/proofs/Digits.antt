-- Numbers that digits spell, with sizes that stand still at 2 ^ 64.
use Rattle.std.proofs.Common.{◌≡◌, ◌<◌, ◌≤◌, ◌+◌, ◌*◌, ◌/◌, ◌^◌, min, ℕ, suc, true, false, List, [], ◌∷◌, length, drop, get_or, nat_le, refl, sym, ap, ◌∙◌, arith, mul-le-mul_left}
use Rattle.std.proofs.Math.Seq.{drop-cons}
use Rattle.std.proofs.lemmas.Bool.Decides.{nat_tests}
use Rattle.pvm_asm.specs.Numbers.{digit, followed_by, paired}

-- more digits give no smaller number
grows : (base n : ℕ) (ds : List ℕ) → 1 ≤ base → n ≤ followed_by base n ds
grows base n [] one = omega arith
grows base n (d ∷ ds) one =
    let more : n * base + digit d ≤ followed_by base (n * base + digit d) ds = grows base (n * base + digit d) ds one in
    let times : n * 1 ≤ n * base = mul-le-mul_left n one in
    omega arith

capped : (base m : ℕ) (ds : List ℕ) → 1 ≤ base → min (followed_by base (min m (2 ^ 64)) ds) (2 ^ 64) ≡ min (followed_by base m ds) (2 ^ 64)
capped base m ds one =
    elim (nat_le m (2 ^ 64)) as (λ b. nat_le m (2 ^ 64) ≡ b → min (followed_by base (min m (2 ^ 64)) ds) (2 ^ 64) ≡ min (followed_by base m ds) (2 ^ 64)) [
      | true ↦ λ e.
          let small : m ≤ 2 ^ 64 = grind (arith, nat_tests) in
          let same : min m (2 ^ 64) ≡ m = omega arith in
          ap (λ n. min (followed_by base n ds) (2 ^ 64)) same
      | false ↦ λ e.
          let large : 2 ^ 64 ≤ m = grind (arith, nat_tests) in
          let first : min m (2 ^ 64) ≤ followed_by base (min m (2 ^ 64)) ds = grows base (min m (2 ^ 64)) ds one in
          let second : m ≤ followed_by base m ds = grows base m ds one in
          omega arith
    ] refl

pub digit_step : (base n i : ℕ) (ds : List ℕ) → 1 ≤ base → i < length ds
    → min (followed_by base (min (n * base + digit (get_or ds i 0)) (2 ^ 64)) (drop (i + 1) ds)) (2 ^ 64) ≡ min (followed_by base n (drop i ds)) (2 ^ 64)
digit_step base n i ds one within =
    let next : suc i ≡ i + 1 = omega arith in
    capped base (n * base + digit (get_or ds i 0)) (drop (i + 1) ds) one
    ∙ sym (ap (λ rest. min (followed_by base n rest) (2 ^ 64)) (drop-cons ds i 0 within ∙ ap (λ k. get_or ds i 0 ∷ drop k ds) next))

-- two digits make a byte
pub length_paired : (ds : List ℕ) → length (paired ds) ≡ length ds / 2
length_paired [] = refl
length_paired (d ∷ []) = refl
length_paired (d ∷ (e ∷ ds)) = let more : length (paired ds) ≡ length ds / 2 = length_paired ds in omega arith
