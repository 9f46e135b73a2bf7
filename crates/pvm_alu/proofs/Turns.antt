-- Rotations: what the code's `rotate_right` and `rotate_left` join by their bits are the two parts of a turned number, at each width.
use Rattle.std.proofs.Common.{◌≡◌, ℕ, ◌+◌, ◌-◌, ◌*◌, ◌/◌, ◌%◌, ◌^◌, ◌<◌, sym, ap, ◌∙◌, subst, arith, bit_or, inl, inr}
use Rattle.std.specs.Int.{Width, rotate_left, rotate_right}
use Rattle.std.specs.Int.Bits.{or_self}
use mir.Val.{bits}
use Rattle.std.proofs.lemmas.Bool.{cases_lt}
use Rattle.std.proofs.Math.Nat.{mod-eq_of_lt, mod_self, mod-one, div-one, div-eq_of_lt, add-mul, mul_assoc}
use Rattle.std.proofs.lemmas.Nat.{or_comm, or_shifted, pow-add, shr_split, shr_below, mod-mul-add, row_fits, pow_pos, mod_below}
use Rattle.pvm_alu.specs.Words.{turned_left, turned_right}

-- the part that comes in again at the left
reentered : (w x k t : ℕ) → k + t ≡ w → x * 2 ^ t % 2 ^ w ≡ x % 2 ^ k * 2 ^ t
reentered w x k t e =
    let whole : 2 ^ w ≡ 2 ^ k * 2 ^ t = ap (λ i. 2 ^ i) (sym e) ∙ pow-add 2 k t in
    let parts : x * 2 ^ t ≡ x / 2 ^ k * (2 ^ k * 2 ^ t) + x % 2 ^ k * 2 ^ t =
    ap (λ (y : ℕ). y * 2 ^ t) (sym (shr_split x k)) ∙ add-mul (x / 2 ^ k * 2 ^ k) (x % 2 ^ k) (2 ^ t)
    ∙ ap (λ (y : ℕ). y + x % 2 ^ k * 2 ^ t) (mul_assoc (x / 2 ^ k) (2 ^ k) (2 ^ t)) in
    let row = row_fits (x % 2 ^ k) (2 ^ t) (2 ^ k) (2 ^ t) (mod_below x (2 ^ k) (pow_pos k)) (omega arith) in
    let some = pow_pos t in
    let below : x % 2 ^ k * 2 ^ t < 2 ^ k * 2 ^ t = omega arith in
    rw (whole, parts) (mod-mul-add (x / 2 ^ k) (2 ^ k * 2 ^ t) (x % 2 ^ k * 2 ^ t) below)

-- both parts, k places to the right and t to the left
joined : (w x k t : ℕ) → k + t ≡ w → x < 2 ^ w → bit_or (x * 2 ^ t % 2 ^ w) (x / 2 ^ k) ≡ x % 2 ^ k * 2 ^ t + x / 2 ^ k
joined w x k t e fits =
    let low : x / 2 ^ k < 2 ^ t = shr_below x t k (subst (λ i. x < 2 ^ i) (omega arith) fits) in
    rw (reentered w x k t e) (or_shifted (x % 2 ^ k) t (x / 2 ^ k) low)

-- by no places
unturned : (w x : ℕ) → x < 2 ^ w → bit_or (x * 2 ^ 0 % 2 ^ w) (x / 2 ^ 0) ≡ x
unturned w x fits =
    let same : x * 2 ^ 0 ≡ x = omega arith in
    let whole : x / 2 ^ 0 ≡ x = div-one x in
    rw (same, whole, mod-eq_of_lt fits) (or_self x)

left_turn : (w x k : ℕ) → k < w → x < 2 ^ w → bit_or (x * 2 ^ k % 2 ^ w) (x / 2 ^ ((w - k) % w)) ≡ turned_left w x k
left_turn w x k within fits = elim (cases_lt 0 k) [
  | inl some ↦
      let less : w - k < w = omega arith in
      rw (mod-eq_of_lt less) (joined w x (w - k) k (omega arith) fits)
  | inr none ↦
      let e : k ≡ 0 = omega arith in
      let back : (w - 0) % w ≡ 0 = ap (λ i. i % w) (omega arith) ∙ mod_self w in
      let wide : w - 0 ≡ w = omega arith in
      let whole : x % 2 ^ (w - 0) * 2 ^ 0 + x / 2 ^ (w - 0) ≡ x = rw (wide, mod-eq_of_lt fits, div-eq_of_lt fits) (omega arith) in
      rw (e, back) (unturned w x fits ∙ sym whole)
]

right_turn : (w x k : ℕ) → k < w → x < 2 ^ w → bit_or (x / 2 ^ k) (x * 2 ^ ((w - k) % w) % 2 ^ w) ≡ turned_right w x k
right_turn w x k within fits = or_comm (x / 2 ^ k) (x * 2 ^ ((w - k) % w) % 2 ^ w) ∙ elim (cases_lt 0 k) [
  | inl some ↦
      let less : w - k < w = omega arith in
      rw (mod-eq_of_lt less) (joined w x k (w - k) (omega arith) fits ∙ omega arith)
  | inr none ↦
      let e : k ≡ 0 = omega arith in
      let back : (w - 0) % w ≡ 0 = ap (λ i. i % w) (omega arith) ∙ mod_self w in
      let whole : x / 2 ^ 0 ≡ x = div-one x in
      let nothing : x % 2 ^ 0 ≡ 0 = mod-one x in
      rw (e, back) (unturned w x fits ∙ rw (whole, nothing) (omega arith))
]

pub rotate_right-turned : (w : Width) (x k : ℕ) → k < bits w → x < 2 ^ bits w → rotate_right w x k ≡ turned_right (bits w) x k
rotate_right-turned w x k within fits = rw (mod-eq_of_lt within) (right_turn (bits w) x k within fits)

pub rotate_left-turned : (w : Width) (x k : ℕ) → k < bits w → x < 2 ^ bits w → rotate_left w x k ≡ turned_left (bits w) x k
rotate_left-turned w x k within fits = rw (mod-eq_of_lt within) (left_turn (bits w) x k within fits)
