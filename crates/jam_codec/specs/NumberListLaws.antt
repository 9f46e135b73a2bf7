-- Numbers of one width that are read one after another.
use Rattle.std.proofs.Common.{◌≡◌, ℕ, zero, suc, ◌+◌, ◌-◌, ◌*◌, ◌/◌, ◌<◌, ◌≤◌, List, length, take, drop, refl, sym, ap, ◌∙◌, arith, Ok, Err, Some, Option, add-zero, zero-mul, mul-zero, le_refl, inl, inr}
use Rattle.std.proofs.Math.Nat.{div-eq_of_lt, div-eq-sub-div}
use Rattle.std.proofs.lemmas.List.{drop-drop, length-drop}
use Rattle.std.proofs.lemmas.Bool.{cases_lt, le-ltb, lt-ltb}
use Rattle.byte_numbers.specs.Numbers.{little_number, numbers}
use Rattle.byte_numbers.specs.NumberLaws.{numbers-take}
use Rattle.jam_codec.specs.Reading.{Reading, past, fixed_at}
use Rattle.jam_codec.specs.Format.{fixed_where, any, items_at}

-- a number that is read where its bytes are, and where some are missing
fixed-read : (width place : ℕ) (bytes : List ℕ) → width ≤ length bytes → (fixed_where width any).read (record { place = place; rest = bytes }) ≡ Ok (little_number (take width bytes), past width (record { place = place; rest = bytes }))
unfolding fixed_at
fixed-read width place bytes h = rw (le-ltb (length bytes) width h) refl

fixed-missing : (width place : ℕ) (bytes : List ℕ) → length bytes < width → (fixed_where width any).read (record { place = place; rest = bytes }) ≡ Err place
unfolding fixed_at
fixed-missing width place bytes h = rw (lt-ltb (length bytes) width h) refl

past-past : (m n : ℕ) (r : Reading) → past m (past n r) ≡ past (n + m) r
past-past m n r =
    let place : r.place + n + m ≡ r.place + (n + m) = omega arith in
    rw (place, drop-drop m n r.rest) refl

pub items_at-numbers : (width n : ℕ) (last : Option ℕ) (r : Reading) → n * width ≤ length r.rest → items_at (λ last. fixed_where width any) n last r ≡ Ok (numbers width n r.rest, past (n * width) r)
unfolding items_at numbers
items_at-numbers width zero last r h = rw (zero-mul, add-zero) refl
items_at-numbers width (suc n) last r h =
    let here : width ≤ length r.rest = omega arith in
    let more : n * width ≤ length (drop width r.rest) = omega (arith, length-drop width r.rest) in
    let next : width + n * width ≡ suc n * width = omega arith in
    rw (fixed-read width r.place r.rest here, items_at-numbers width n (Some (little_number (take width r.rest))) (past width r) more, past-past (n * width) width r, next) refl

-- the same, said of their bytes alone
pub items_at-numbers_front : (width n : ℕ) (last : Option ℕ) (r : Reading) → n * width ≤ length r.rest → items_at (λ last. fixed_where width any) n last r ≡ Ok (numbers width n (take (n * width) r.rest), past (n * width) r)
items_at-numbers_front width n last r h =
    items_at-numbers width n last r h
    ∙ ap (λ (xs : List ℕ). Ok (xs, past (n * width) r)) (sym (numbers-take width n (n * width) r.rest (le_refl (n * width))))

wide : (width n k : ℕ) → k < n * width → 0 < width
wide zero n k h = let none : n * 0 ≡ 0 = mul-zero n in absurd (omega arith)
wide (suc width) n k h = omega arith

pub items_at-missing : (width n : ℕ) (last : Option ℕ) (r : Reading) → length r.rest < n * width → items_at (λ last. fixed_where width any) n last r ≡ Err (r.place + length r.rest / width * width)
unfolding items_at
items_at-missing width zero last r h = absurd (omega arith)
items_at-missing width (suc n) last r h = elim (cases_lt (length r.rest) width) [
  | inl short ↦
      let none : length r.rest / width ≡ 0 = div-eq_of_lt short in
      rw (fixed-missing width r.place r.rest short, none, zero-mul, add-zero) refl
  | inr here ↦
      let more : length (drop width r.rest) < n * width = omega (arith, length-drop width r.rest) in
      let one : length r.rest / width ≡ (length r.rest - width) / width + 1 = div-eq-sub-div (wide width (suc n) (length r.rest) h) here in
      let place : r.place + width + (length r.rest - width) / width * width ≡ r.place + length r.rest / width * width = rw one (omega arith) in
      rw (fixed-read width r.place r.rest here, items_at-missing width n (Some (little_number (take width r.rest))) (past width r) more, length-drop width r.rest, place) refl
]
