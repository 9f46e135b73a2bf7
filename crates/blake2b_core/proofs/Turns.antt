-- A word turned to the right, as its two parts change places.
use Rattle.std.proofs.Common.{◌≡◌, ℕ, ◌+◌, ◌-◌, ◌*◌, ◌/◌, ◌%◌, ◌^◌, ◌<◌, ◌≤◌, List, bit_or, bit_xor, slice_index, slice_set, refl, sym, ap, ◌∙◌, subst, arith}
use Rattle.std.specs.Int.{w64, rotate_right}
use Rattle.std.proofs.Math.Nat.{add-mul, mul_assoc}
use Rattle.std.proofs.lemmas.Nat.{mod-mul-add, mod_below, or_comm, or_shifted, pow-add, pow_pos, row_fits, shr_below, shr_split, xor_lt}
use Rattle.blake2b_core.specs.Blake2b.{plus, turned, half_mix}

-- of x moved up by w - k places, a word of w bits keeps the k low bits of x
low_part : (w k x : ℕ) → k ≤ w → x * 2 ^ (w - k) % 2 ^ w ≡ x % 2 ^ k * 2 ^ (w - k)
low_part w k x inside =
    let up : ℕ = 2 ^ (w - k) in
    let high : ℕ = x / 2 ^ k in
    let low : ℕ = x % 2 ^ k in
    let word : 2 ^ w ≡ 2 ^ k * up = ap (λ (n : ℕ). 2 ^ n) (omega arith) ∙ pow-add 2 k (w - k) in
    let parts : x * up ≡ high * (2 ^ k * up) + low * up =
    ap (λ (n : ℕ). n * up) (sym (shr_split x k)) ∙ add-mul (high * 2 ^ k) low up
    ∙ ap (λ (n : ℕ). n + low * up) (mul_assoc high (2 ^ k) up) in
    let above = pow_pos (w - k) in
    let row = row_fits low up (2 ^ k) up (mod_below x (2 ^ k) (pow_pos k)) (omega arith) in
    rw (word, parts) (mod-mul-add high (2 ^ k * up) (low * up) (omega arith))

-- the two parts stand side by side
side_by_side : (w k x : ℕ) → k ≤ w → x < 2 ^ w → bit_or (x / 2 ^ k) (x * 2 ^ (w - k) % 2 ^ w) ≡ x / 2 ^ k + x % 2 ^ k * 2 ^ (w - k)
side_by_side w k x inside fits =
    let split : w ≡ w - k + k = omega arith in
    let high = shr_below x (w - k) k (subst (λ (n : ℕ). x < 2 ^ n) split fits) in
    let swapped = or_comm (x / 2 ^ k) (x % 2 ^ k * 2 ^ (w - k)) in
    rw (low_part w k x inside, swapped, or_shifted (x % 2 ^ k) (w - k) (x / 2 ^ k) high) (omega arith)

pub rotate_right_turned : (x k : ℕ) → 0 < k → k < 64 → x < 2 ^ 64 → rotate_right w64 x k ≡ turned k x
rotate_right_turned x k some inside fits =
    let here : k % 64 ≡ k = omega arith in
    let back : (64 - k) % 64 ≡ 64 - k = omega arith in
    rw (here, back) (side_by_side 64 k x (omega arith) fits)

-- half of the mixing function, from the two words that it turns
pub half_mixed : (near far a b c d x new_d new_b : ℕ) (v : List ℕ) → 0 < near → near < 64 → 0 < far → far < 64
    → slice_index v d < 2 ^ 64 → slice_index v b < 2 ^ 64
    → new_d ≡ rotate_right w64 (bit_xor (slice_index v d) (plus (plus (slice_index v a) (slice_index v b)) x)) near
    → new_b ≡ rotate_right w64 (bit_xor (slice_index v b) (plus (slice_index v c) new_d)) far
    → slice_set (slice_set (slice_set (slice_set v a (plus (plus (slice_index v a) (slice_index v b)) x)) d new_d) c (plus (slice_index v c) new_d)) b new_b
    ≡ half_mix near far a b c d x v
unfolding half_mix
half_mixed near far a b c d x new_d new_b v near_some near_fits far_some far_fits d_fits b_fits turn_d turn_b =
    let d_is : new_d ≡ turned near (bit_xor (slice_index v d) (plus (plus (slice_index v a) (slice_index v b)) x)) =
    turn_d ∙ rotate_right_turned _ near near_some near_fits (xor_lt 64 _ _ d_fits (omega arith)) in
    let b_is : new_b ≡ turned far (bit_xor (slice_index v b) (plus (slice_index v c) new_d)) =
    turn_b ∙ rotate_right_turned _ far far_some far_fits (xor_lt 64 _ _ b_fits (omega arith)) in
    rw (b_is, d_is) refl
