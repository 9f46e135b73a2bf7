-- The laws of the fields.
use Rattle.std.proofs.Common.{◌≡◌, ℕ, ◌+◌, ◌-◌, ◌*◌, ◌^◌, ◌<◌, ◌≤◌, Bool, true, false, List, ◌++◌, length, take, refl, sym, ap, ◌∙◌, subst, arith, Option, Some, None, Result, Ok, Err, nat_lt, if◌then◌else◌, length-append, take-append-drop}
use Rattle.std.proofs.lemmas.List.{take_at, drop_at, length-take-le}
use Rattle.std.proofs.lemmas.Bool.{le-ltb, ltb-false, lt-ltb, ltb-true}
use Rattle.jam_codec.specs.Spelling.{natural, binary_digits, binary_number, bytes_for, packed}
use Rattle.byte_numbers.specs.Numbers.{little_endian, little_number}
use Rattle.jam_codec.specs.Reading.{Reading, Takes, past, natural_of, moved, natural_at, bytes_at, fixed_at, bits_at}
use Rattle.jam_codec.specs.Format.{from, any, natural_where, fixed_where, bytes_where, bits_where, numbers_of}
use Rattle.jam_codec.specs.Laws.{IsCode, IsFormat}
use Rattle.byte_numbers.specs.NumberLaws.{AreBytes-take, little_number-below, little_number-little_endian, little_endian-little_number, length-little_endian}
use Rattle.jam_codec.specs.NaturalLaws.{natural_of-natural, natural-Takes}
use Rattle.jam_codec.specs.BitLaws.{Front, packed-Front, packed-found, length-packed, length-binary_digits, binary_digits-binary_number}
use Rattle.jam_codec.specs.JoinLaws.{ok_parts, field_laws, times_laws}

-- a natural
moved-ok : (r : Reading) (found : Option (ℕ × List ℕ)) (x : ℕ) (s : Reading) → moved r found ≡ Ok (x, s) → (rest : List ℕ) × (found ≡ Some (x, rest)) × (from (r.place + (length r.rest - length rest)) rest ≡ s)
moved-ok r None x s e = absurd (cc e)
moved-ok r (Some found) x s e =
    let parts : (found.0 ≡ x) × (from (r.place + (length r.rest - length found.1)) found.1 ≡ s) = ok_parts found.0 x (from (r.place + (length r.rest - length found.1)) found.1) s e in
    (found.1, ap (λ (n : ℕ). Some (n, found.1)) parts.0, parts.1)

natural_code : IsCode (λ x. x < 2 ^ 64) natural natural_at
unfolding natural_at
natural_code = record {
  again = λ place x rest h. rw natural_of-natural (ap (λ (n : ℕ). Ok (x, from (place + n) rest)) (omega (arith, length-append (natural x) rest)));
  found = λ r x s b e.
      let m : (rest : List ℕ) × (natural_of r.rest ≡ Some (x, rest)) × (from (r.place + (length r.rest - length rest)) rest ≡ s) = moved-ok r (natural_of r.rest) x s e in
      let t : (x < 2 ^ 64) × Takes r (natural x) (from (r.place + (length r.rest - length m.0)) m.0) = natural-Takes r x m.0 b m.1 in
      (t.0, subst (λ (t : Reading). Takes r (natural x) t) m.2 t.1);
}

-- the first n bytes, where so many are left
Takes-front : (n : ℕ) (r : Reading) → n ≤ length r.rest → Takes r (take n r.rest) (past n r)
Takes-front n r h = record { place = omega (arith, length-take-le n r.rest h); rest = sym (take-append-drop n r.rest) }

past-front : (n place : ℕ) (front rest : List ℕ) → length front ≡ n → past n (from place (front ++ rest)) ≡ from (place + length front) rest
past-front n place front rest size = rw (drop_at front rest n size, size) refl

front_long : (n : ℕ) (front rest : List ℕ) → length front ≡ n → nat_lt (length (front ++ rest)) n ≡ false
front_long n front rest size = le-ltb (length (front ++ rest)) n (omega (arith, length-append front rest))

-- what a choice gave
chosen_second : {X : Type 0} → (b : Bool) (place : ℕ) (r : Result X ℕ) (x : X) → (if b then Err place else r) ≡ Ok x → (b ≡ false) × (r ≡ Ok x)
chosen_second true place r x e = absurd (cc e)
chosen_second false place r x e = (refl, e)

chosen_first : {X : Type 0} → (b : Bool) (place : ℕ) (r : Result X ℕ) (x : X) → (if b then r else Err place) ≡ Ok x → (b ≡ true) × (r ≡ Ok x)
chosen_first true place r x e = (refl, e)
chosen_first false place r x e = absurd (cc e)

-- what a field of n bytes gave: a value of its bytes
record Whole {X : Type 0} (n : ℕ) (value : List ℕ → X) (r : Reading) (x : X) (s : Reading) : Type 0 where
  long : n ≤ length r.rest
  is : value (take n r.rest) ≡ x
  after : past n r ≡ s

abbrev front_read : {X : Type 0} → ℕ → (List ℕ → X) → Reading → Result (X × Reading) ℕ
front_read n value r = Ok (value (take n r.rest), past n r)

abbrev whole_read : {X : Type 0} → ℕ → (List ℕ → X) → Reading → Result (X × Reading) ℕ
whole_read n value r = if nat_lt (length r.rest) n then Err r.place else front_read n value r

whole_at : {X : Type 0} → (n : ℕ) (value : List ℕ → X) (r : Reading) (x : X) (s : Reading) → whole_read n value r ≡ Ok (x, s) → Whole n value r x s
whole_at n value r x s e =
    let c : (nat_lt (length r.rest) n ≡ false) × (front_read n value r ≡ Ok (x, s)) =
    chosen_second (nat_lt (length r.rest) n) r.place (front_read n value r) (x, s) e in
    let parts : (value (take n r.rest) ≡ x) × (past n r ≡ s) = ok_parts (value (take n r.rest)) x (past n r) s c.1 in
    record { long = ltb-false (length r.rest) n c.0; is = parts.0; after = parts.1 }

-- a run of bytes
bytes_code : (n : ℕ) → IsCode (λ x. length x ≡ n) (λ x. x) (bytes_at n)
unfolding bytes_at
bytes_code n = record {
  again = λ place x rest h. rw (front_long n x rest h, take_at x rest n h, past-front n place x rest h) refl;
  found = λ r x s b e.
      let w : Whole n (λ (bytes : List ℕ). bytes) r x s = whole_at n (λ (bytes : List ℕ). bytes) r x s e in (
        ap length (sym w.is) ∙ length-take-le n r.rest w.long,
        subst (λ (bytes : List ℕ). Takes r bytes s) w.is (subst (λ (t : Reading). Takes r (take n r.rest) t) w.after (Takes-front n r w.long)),
      );
}

-- a number of n bytes
fixed_code : (n : ℕ) → IsCode (λ x. x < 2 ^ (8 * n)) (little_endian n) (fixed_at n)
unfolding fixed_at
fixed_code n = record {
  again = λ place x rest h.
      let size : length (little_endian n x) ≡ n = length-little_endian n x in
      rw (front_long n (little_endian n x) rest size, take_at (little_endian n x) rest n size, little_number-little_endian n x h, past-front n place (little_endian n x) rest size) refl;
  found = λ r x s b e.
      let w : Whole n little_number r x s = whole_at n little_number r x s e in
      let size : length (take n r.rest) ≡ n = length-take-le n r.rest w.long in
      let below : little_number (take n r.rest) < 2 ^ (8 * n) = rw size at (little_number-below (take n r.rest) (AreBytes-take n r.rest b)) in
      let spelled : take n r.rest ≡ little_endian n x =
      sym (little_endian-little_number (take n r.rest) (AreBytes-take n r.rest b)) ∙ ap (λ (k : ℕ). little_endian k (little_number (take n r.rest))) size ∙ ap (little_endian n) w.is in (
        omega (arith, w.is),
        subst (λ (bytes : List ℕ). Takes r bytes s) spelled (subst (λ (t : Reading). Takes r (take n r.rest) t) w.after (Takes-front n r w.long)),
      );
}

-- a string of n bits
abbrev spare_read : ℕ → Reading → Result (List Bool × Reading) ℕ
spare_read n r = if nat_lt (little_number (take (bytes_for n) r.rest)) (2 ^ n) then front_read (bytes_for n) (λ bytes. binary_digits n (little_number bytes)) r else Err r.place

bits_code : (n : ℕ) → IsCode (λ x. length x ≡ n) packed (bits_at n)
unfolding bits_at
bits_code n = record {
  again = λ place x rest h.
      let front : Front x n rest (packed x ++ rest) = packed-Front x n rest (packed x ++ rest) h refl in
      let digits : binary_digits n (binary_number x) ≡ x = ap (λ (k : ℕ). binary_digits k (binary_number x)) (sym h) ∙ binary_digits-binary_number x in
      let size : length (packed x) ≡ bytes_for n = length-packed x ∙ ap (λ (k : ℕ). bytes_for k) h in
      rw (
        le-ltb (length (packed x ++ rest)) (bytes_for n) front.long,
        lt-ltb (little_number (take (bytes_for n) (packed x ++ rest))) (2 ^ n) front.below,
        front.number,
        digits,
        past-front (bytes_for n) place (packed x) rest size,
      ) refl;
  found = λ r x s b e.
      let few : (nat_lt (length r.rest) (bytes_for n) ≡ false) × (spare_read n r ≡ Ok (x, s)) =
      chosen_second (nat_lt (length r.rest) (bytes_for n)) r.place (spare_read n r) (x, s) e in
      let spare : (nat_lt (little_number (take (bytes_for n) r.rest)) (2 ^ n) ≡ true) × (front_read (bytes_for n) (λ bytes. binary_digits n (little_number bytes)) r ≡ Ok (x, s)) =
      chosen_first (nat_lt (little_number (take (bytes_for n) r.rest)) (2 ^ n)) r.place (front_read (bytes_for n) (λ bytes. binary_digits n (little_number bytes)) r) (x, s) few.1 in
      let parts : (binary_digits n (little_number (take (bytes_for n) r.rest)) ≡ x) × (past (bytes_for n) r ≡ s) =
      ok_parts (binary_digits n (little_number (take (bytes_for n) r.rest))) x (past (bytes_for n) r) s spare.1 in
      let long : bytes_for n ≤ length r.rest = ltb-false (length r.rest) (bytes_for n) few.0 in
      let spelled : take (bytes_for n) r.rest ≡ packed x =
      packed-found (take (bytes_for n) r.rest) n (AreBytes-take (bytes_for n) r.rest b) (length-take-le (bytes_for n) r.rest long)
      (ltb-true (little_number (take (bytes_for n) r.rest)) (2 ^ n) spare.0)
      ∙ ap (λ (bits : List Bool). packed bits) parts.0 in (
        ap length (sym parts.0) ∙ length-binary_digits n (little_number (take (bytes_for n) r.rest)),
        subst (λ (bytes : List ℕ). Takes r bytes s) spelled (subst (λ (t : Reading). Takes r (take (bytes_for n) r.rest) t) parts.1 (Takes-front (bytes_for n) r long)),
      );
}

pub natural_laws : (test : ℕ → Bool) → IsFormat (natural_where test)
natural_laws test = field_laws (λ x. x < 2 ^ 64) natural natural_at natural_code test

pub fixed_laws : (n : ℕ) (test : ℕ → Bool) → IsFormat (fixed_where n test)
fixed_laws n test = field_laws (λ x. x < 2 ^ (8 * n)) (little_endian n) (fixed_at n) (fixed_code n) test

pub bytes_laws : (n : ℕ) (test : List ℕ → Bool) → IsFormat (bytes_where n test)
bytes_laws n test = field_laws (λ x. length x ≡ n) (λ x. x) (bytes_at n) (bytes_code n) test

pub bits_laws : (n : ℕ) (test : List Bool → Bool) → IsFormat (bits_where n test)
bits_laws n test = field_laws (λ x. length x ≡ n) packed (bits_at n) (bits_code n) test

pub numbers_laws : (width n : ℕ) → IsFormat (numbers_of width n)
numbers_laws width n = times_laws (λ last. fixed_where width any) (λ last. fixed_laws width any) n
