-- The laws of formats: of one field, and of each way to put formats together.
use Rattle.std.proofs.Common.{◌≡◌, ℕ, zero, suc, ◌+◌, ◌≤◌, Bool, true, false, List, [], ◌∷◌, ◌++◌, length, refl, sym, ap, ◌∙◌, subst, arith, inl, inr, ◌⊎◌, ◌↔◌, Option, Some, None, Result, Ok, Err, if◌then◌else◌, append_assoc, append-nil, length-append}
use Rattle.jam_codec.specs.Reading.{Reading, Takes, ◌>>=◌}
use Rattle.jam_codec.specs.Format.{Format, from, passing, field_where, both, by, items_fit, items_spelled, items_run, items_at, times}
use Rattle.byte_numbers.specs.Numbers.{AreBytes}
use Rattle.jam_codec.specs.Laws.{IsCode, Longest, IsFormat, HasOneSpelling, HasNoPrefix}
use Rattle.byte_numbers.specs.NumberLaws.{AreBytes-rest}

-- a chain that gave a value, or a place
pub chain_ok : {A B : Type 0} → (r : Result A ℕ) (f : A → Result B ℕ) (y : B) → (r >>= f) ≡ Ok y → (x : A) × (r ≡ Ok x) × (f x ≡ Ok y)
chain_ok (Ok x) f y e = (x, refl, e)
chain_ok (Err place) f y e = absurd (cc e)

pub chain_err : {A B : Type 0} → (r : Result A ℕ) (f : A → Result B ℕ) (place : ℕ) → (r >>= f) ≡ Err place → (r ≡ Err place) ⊎ ((x : A) × (r ≡ Ok x) × (f x ≡ Err place))
chain_err (Ok x) f place e = inr (x, refl, e)
chain_err (Err first) f place e = let same : first ≡ place = cc in inl (ap Err same)

pub ok_parts : {A B : Type 0} → (x y : A) (s t : B) → (let r : Result (A × B) ℕ = Ok (x, s) in r) ≡ Ok (y, t) → (x ≡ y) × (s ≡ t)
ok_parts {A} {B} x y s t e =
    let pairs : (let p : A × B = (x, s) in p) ≡ (y, t) = cc in
    (ap (λ p. p.0) pairs, ap (λ p. p.1) pairs)

-- a test on what was read
choice_ok : {X : Type 0} → (b : Bool) (x y : X) (place : ℕ) → (if b then Ok x else Err place) ≡ Ok y → (x ≡ y) × (b ≡ true)
choice_ok true x y place e = (cc, refl)
choice_ok false x y place e = absurd (cc e)

choice_err : {X : Type 0} → (b : Bool) (x : X) (here place : ℕ) → (if b then Ok x else Err here) ≡ Err place → (place ≡ here) × (b ≡ false)
choice_err true x here place e = absurd (cc e)
choice_err false x here place e = (cc, refl)

pub passing_ok : {A : Type 0} → (test : A → Bool) (here : ℕ) (r : Result (A × Reading) ℕ) (x : A) (s : Reading) → passing test here r ≡ Ok (x, s) → (r ≡ Ok (x, s)) × (test x ≡ true)
passing_ok test here (Ok y) x s e =
    let c : (y ≡ (x, s)) × (test y.0 ≡ true) = choice_ok (test y.0) y (x, s) here e in
    (ap Ok c.0, ap (λ p. test p.0) (sym c.0) ∙ c.1)
passing_ok test here (Err place) x s e = absurd (cc e)

pub passing_err : {A : Type 0} → (test : A → Bool) (here place : ℕ) (r : Result (A × Reading) ℕ) → passing test here r ≡ Err place → (place ≡ here) × ((x : A) (s : Reading) → r ≡ Ok (x, s) → test x ≡ true → ⊥)
passing_err {A} test here place (Ok y) e =
    let c : (place ≡ here) × (test y.0 ≡ false) = choice_err (test y.0) y here place e in (
      c.0,
      λ x s is pass.
          let same : y ≡ (x, s) = cc in
          let contrary : true ≡ false = sym pass ∙ ap (λ p. test p.0) (sym same) ∙ c.1 in
          cc,
    )
passing_err test here place (Err p) e = (cc, λ x s is pass. absurd (cc is))

pub AreBytes-Takes : (r : Reading) (bytes : List ℕ) (s : Reading) → AreBytes r.rest → Takes r bytes s → AreBytes s.rest
AreBytes-Takes r bytes s b t = AreBytes-rest bytes s.rest (subst AreBytes t.rest b)

Takes-both : (r s t : Reading) (front back : List ℕ) → Takes r front s → Takes s back t → Takes r (front ++ back) t
Takes-both r s t front back p q = record {
  place = omega (arith, p.place, q.place, length-append front back);
  rest = p.rest ∙ ap (λ (bytes : List ℕ). front ++ bytes) q.rest ∙ sym (append_assoc front back t.rest);
}

-- what follows from a code alone: where a value is spelled it is read, and no other value is spelled there
module _ {A : Type 0} (Fits : A → Type 0) (spell : A → List ℕ) (read : Reading → Result (A × Reading) ℕ) (code : IsCode Fits spell read) where
  pub read_here : (r : Reading) (x : A) (rest : List ℕ) → Fits x → r.rest ≡ spell x ++ rest → read r ≡ Ok (x, from (r.place + length (spell x)) rest)
  read_here r x rest h e = ap (λ (bytes : List ℕ). read (from r.place bytes)) e ∙ code.again r.place x rest h

  pub one_value : (x y : A) (s t : List ℕ) → Fits x → Fits y → spell x ++ s ≡ spell y ++ t → (x ≡ y) × (s ≡ t)
  one_value x y s t hx hy e =
      let first : read (from 0 (spell x ++ s)) ≡ Ok (x, from (0 + length (spell x)) s) = code.again 0 x s hx in
      let second : read (from 0 (spell x ++ s)) ≡ Ok (y, from (0 + length (spell y)) t) = read_here (from 0 (spell x ++ s)) y t hy e in
      let parts : (x ≡ y) × (from (0 + length (spell x)) s ≡ from (0 + length (spell y)) t) =
      ok_parts x y (from (0 + length (spell x)) s) (from (0 + length (spell y)) t) (sym first ∙ second) in
      (parts.0, ap (λ (r : Reading). r.rest) parts.1)

  -- one field
  field_runs : (test : A → Bool) (x : A) (run more rest : List ℕ) → Fits x → (run ≡ []) ⊎ ((y : A) × Fits y × (test y ≡ true) × (run ≡ spell y)) → run ++ more ≡ spell x ++ rest → length run ≤ length (spell x)
  field_runs test x run more rest h (inl none) e = rw none (omega arith)
  field_runs test x run more rest h (inr some) e =
      let one : (some.0 ≡ x) × (more ≡ rest) = one_value some.0 x more rest some.1 h (ap (λ (bytes : List ℕ). bytes ++ more) (sym some.3) ∙ e) in
      omega (arith, ap length some.3, ap (λ (y : A). length (spell y)) one.0)

  field_longest : (test : A → Bool) (r : Reading) → ((x : A) (s : Reading) → read r ≡ Ok (x, s) → test x ≡ true → ⊥)
      → (run more : List ℕ) → (run ≡ []) ⊎ ((y : A) × Fits y × (test y ≡ true) × (run ≡ spell y)) → r.rest ≡ run ++ more → length run ≤ 0
  field_longest test r refused run more (inl none) e = rw none (omega arith)
  field_longest test r refused run more (inr some) e =
      absurd (refused some.0 (from (r.place + length (spell some.0)) more) (read_here r some.0 more some.1 (e ∙ ap (λ (bytes : List ℕ). bytes ++ more) some.3)) some.2)

  pub field_laws : (test : A → Bool) → IsFormat (field_where test Fits spell read)
  field_laws test = record {
    code = record {
      again = λ place x rest h. rw (code.again place x rest h.0, h.1);
      found = λ r x s b e.
          let p : (read r ≡ Ok (x, s)) × (test x ≡ true) = passing_ok test r.place (read r) x s e in
          let t : Fits x × Takes r (spell x) s = code.found r x s b p.0 in
          ((t.0, p.1), t.1);
    };
    all = λ x h. inr (x, h.0, h.1, refl);
    runs = λ x run more rest h is e. field_runs test x run more rest h.0 is e;
    refused = λ r place b e.
        let p : (place ≡ r.place) × ((x : A) (s : Reading) → read r ≡ Ok (x, s) → test x ≡ true → ⊥) = passing_err test r.place place (read r) e in
        record {
          run = [];
          left = r.rest;
          whole = inl refl;
          bytes = refl;
          place = omega (arith, p.0);
          longest = λ run more is front. field_longest test r p.1 run more is front;
        };
  }

-- one part, and then the part that its value asks for
module _ {A B : Type 0} (f : Format A) (g : A → Format B) (F : IsFormat f) (G : (x : A) → IsFormat (g x)) where
  -- a run that goes past the first part, where a first part x stands
  record Past (x : A) (run more rest : List ℕ) : Type 0 where
    second : List ℕ
    is : (g x).Run second
    left : second ++ more ≡ rest
    size : length run ≡ length (f.spell x) + length second

  past_first : (x : A) (run more rest : List ℕ) → f.Fits x → (y : A) (second : List ℕ) → f.Fits y → (g y).Run second → run ≡ f.spell y ++ second → run ++ more ≡ f.spell x ++ rest → Past x run more rest
  past_first x run more rest hx y second hy is parts e =
      let one : (y ≡ x) × (second ++ more ≡ rest) =
      one_value f.Fits f.spell f.read F.code y x (second ++ more) rest hy hx
      (sym (append_assoc (f.spell y) second more) ∙ ap (λ (bytes : List ℕ). bytes ++ more) (sym parts) ∙ e) in
      record {
        second = second;
        is = subst (λ (z : A). (g z).Run second) one.0 is;
        left = one.1;
        size = omega (arith, ap length parts, length-append (f.spell y) second, ap (λ (z : A). length (f.spell z)) one.0);
      }

  both_again : (place : ℕ) (p : A × B) (rest : List ℕ) → (both f g).Fits p → (both f g).read (from place ((both f g).spell p ++ rest)) ≡ Ok (p, from (place + length ((both f g).spell p)) rest)
  both_again place p rest h =
      let first : f.read (from place (f.spell p.0 ++ ((g p.0).spell p.1 ++ rest))) ≡ Ok (p.0, from (place + length (f.spell p.0)) ((g p.0).spell p.1 ++ rest)) =
      F.code.again place p.0 ((g p.0).spell p.1 ++ rest) h.0 in
      let second : (g p.0).read (from (place + length (f.spell p.0)) ((g p.0).spell p.1 ++ rest)) ≡ Ok (p.1, from (place + length (f.spell p.0) + length ((g p.0).spell p.1)) rest) =
      (G p.0).code.again (place + length (f.spell p.0)) p.1 rest h.1 in
      rw (append_assoc (f.spell p.0) ((g p.0).spell p.1) rest, first, second)
      (ap (λ (n : ℕ). Ok (p, from n rest)) (omega (arith, length-append (f.spell p.0) ((g p.0).spell p.1))))

  both_found : (r : Reading) (p : A × B) (s : Reading) → AreBytes r.rest → (both f g).read r ≡ Ok (p, s) → (both f g).Fits p × Takes r ((both f g).spell p) s
  both_found r p s b e =
      let x : (x : A × Reading) × (f.read r ≡ Ok x) × (((g x.0).read x.1 >>= λ y. Ok ((x.0, y.0), y.1)) ≡ Ok (p, s)) =
      chain_ok (f.read r) (λ x. (g x.0).read x.1 >>= λ y. Ok ((x.0, y.0), y.1)) (p, s) e in
      let y : (y : B × Reading) × ((g x.0.0).read x.0.1 ≡ Ok y) × ((let q : Result ((A × B) × Reading) ℕ = Ok ((x.0.0, y.0), y.1) in q) ≡ Ok (p, s)) =
      chain_ok ((g x.0.0).read x.0.1) (λ y. Ok ((x.0.0, y.0), y.1)) (p, s) x.2 in
      let same : ((x.0.0, y.0.0) ≡ p) × (y.0.1 ≡ s) = ok_parts (x.0.0, y.0.0) p y.0.1 s y.2 in
      let first : f.Fits x.0.0 × Takes r (f.spell x.0.0) x.0.1 = F.code.found r x.0.0 x.0.1 b x.1 in
      let second : (g x.0.0).Fits y.0.0 × Takes x.0.1 ((g x.0.0).spell y.0.0) y.0.1 =
      (G x.0.0).code.found x.0.1 y.0.0 y.0.1 (AreBytes-Takes r (f.spell x.0.0) x.0.1 b first.1) y.1 in
      let found : (both f g).Fits (x.0.0, y.0.0) × Takes r ((both f g).spell (x.0.0, y.0.0)) y.0.1 =
      ((first.0, second.0), Takes-both r x.0.1 y.0.1 (f.spell x.0.0) ((g x.0.0).spell y.0.0) first.1 second.1) in
      let seen : (both f g).Fits p × Takes r ((both f g).spell p) y.0.1 =
      subst (λ (q : A × B). (both f g).Fits q × Takes r ((both f g).spell q) y.0.1) same.0 found in
      subst (λ (t : Reading). (both f g).Fits p × Takes r ((both f g).spell p) t) same.1 seen

  both_runs : (p : A × B) (run more rest : List ℕ) → (both f g).Fits p → (both f g).Run run → run ++ more ≡ (both f g).spell p ++ rest → length run ≤ length ((both f g).spell p)
  both_runs p run more rest h (inl is) e =
      omega (arith, F.runs p.0 run more ((g p.0).spell p.1 ++ rest) h.0 is (e ∙ append_assoc (f.spell p.0) ((g p.0).spell p.1) rest), length-append (f.spell p.0) ((g p.0).spell p.1))
  both_runs p run more rest h (inr (y, second, hy, is, parts)) e =
      let past : Past p.0 run more ((g p.0).spell p.1 ++ rest) =
      past_first p.0 run more ((g p.0).spell p.1 ++ rest) h.0 y second hy is parts (e ∙ append_assoc (f.spell p.0) ((g p.0).spell p.1) rest) in
      omega (arith, (G p.0).runs p.1 past.second more rest h.1 past.is past.left, past.size, length-append (f.spell p.0) ((g p.0).spell p.1))

  -- where the first part is refused, and where the second is
  first_longest : (r : Reading) (place : ℕ) → f.read r ≡ Err place → (l : Longest f.Run r place) (run more : List ℕ) → (both f g).Run run → r.rest ≡ run ++ more → length run ≤ length l.run
  first_longest r place refused l run more (inl is) e = l.longest run more is e
  first_longest r place refused l run more (inr (y, second, hy, is, parts)) e =
      let here : f.read r ≡ Ok (y, from (r.place + length (f.spell y)) (second ++ more)) =
      read_here f.Fits f.spell f.read F.code r y (second ++ more) hy (e ∙ ap (λ (bytes : List ℕ). bytes ++ more) parts ∙ append_assoc (f.spell y) second more) in
      absurd (cc (sym refused ∙ here))

  second_longest : (r : Reading) (x : A) (s : Reading) (place : ℕ) → f.Fits x → Takes r (f.spell x) s → (l : Longest (g x).Run s place) (run more : List ℕ) → (both f g).Run run → r.rest ≡ run ++ more → length run ≤ length (f.spell x) + length l.run
  second_longest r x s place hx t l run more (inl is) e = omega (arith, F.runs x run more s.rest hx is (sym e ∙ t.rest))
  second_longest r x s place hx t l run more (inr (y, second, hy, is, parts)) e =
      let past : Past x run more s.rest = past_first x run more s.rest hx y second hy is parts (sym e ∙ t.rest) in
      omega (arith, l.longest past.second more past.is (sym past.left), past.size)

  second_refused : (r : Reading) (place : ℕ) → AreBytes r.rest → (x : A × Reading) → f.read r ≡ Ok x → (g x.0).read x.1 ≡ Err place → Longest (both f g).Run r place
  second_refused r place b x first second =
      let t : f.Fits x.0 × Takes r (f.spell x.0) x.1 = F.code.found r x.0 x.1 b first in
      let l : Longest (g x.0).Run x.1 place = (G x.0).refused x.1 place (AreBytes-Takes r (f.spell x.0) x.1 b t.1) second in
      record {
        run = f.spell x.0 ++ l.run;
        left = l.left;
        whole = inr (x.0, l.run, t.0, l.whole, refl);
        bytes = t.1.rest ∙ ap (λ (bytes : List ℕ). f.spell x.0 ++ bytes) l.bytes ∙ sym (append_assoc (f.spell x.0) l.run l.left);
        place = omega (arith, l.place, t.1.place, length-append (f.spell x.0) l.run);
        longest = λ run more is e. omega (arith, second_longest r x.0 x.1 place t.0 t.1 l run more is e, length-append (f.spell x.0) l.run);
      }

  both_refused : (r : Reading) (place : ℕ) → AreBytes r.rest → (both f g).read r ≡ Err place → Longest (both f g).Run r place
  both_refused r place b e = elim (chain_err (f.read r) (λ x. (g x.0).read x.1 >>= λ y. Ok ((x.0, y.0), y.1)) place e) [
    | inl first ↦
        let l : Longest f.Run r place = F.refused r place b first in
        record {
          run = l.run;
          left = l.left;
          whole = inl l.whole;
          bytes = l.bytes;
          place = l.place;
          longest = λ run more is front. first_longest r place first l run more is front;
        }
    | inr x ↦ elim (chain_err ((g x.0.0).read x.0.1) (λ y. Ok ((x.0.0, y.0), y.1)) place x.2) [
      | inl second ↦ second_refused r place b x.0 x.1 second
      | inr y ↦ absurd (cc y.2)
    ]
  ]

  pub both_laws : IsFormat (both f g)
  both_laws = record {
    code = record { again = both_again; found = both_found };
    all = λ p h. inr (p.0, (g p.0).spell p.1, h.0, (G p.0).all p.1 h.1, refl);
    runs = both_runs;
    refused = both_refused;
  }

-- a format whose values are those of another, seen otherwise
pub record Same {A B : Type 0} (view : A → B) (f : Format A) (h : Format B) : Type 0 where
  pub fits : (a : A) → f.Fits a → h.Fits (view a) × (h.spell (view a) ≡ f.spell a)
  pub onto : (b : B) → h.Fits b → (a : A) × f.Fits a × (view a ≡ b)
  pub run : (run : List ℕ) → h.Run run ↔ f.Run run
  pub reads : (r : Reading) → h.read r ≡ (f.read r >>= λ x. Ok (view x.0, x.1))

module _ {A B : Type 0} (view : A → B) (f : Format A) (h : Format B) (F : IsFormat f) (same : Same view f h) where
  -- what is behind a value
  record Behind (b : B) : Type 0 where
    value : A
    fits : f.Fits value
    is : view value ≡ b
    spelled : h.spell b ≡ f.spell value

  behind : (b : B) → h.Fits b → Behind b
  behind b hb =
      let a : (a : A) × f.Fits a × (view a ≡ b) = same.onto b hb in
      record { value = a.0; fits = a.1; is = a.2; spelled = ap h.spell (sym a.2) ∙ (same.fits a.0 a.1).1 }

  same_again : (place : ℕ) (b : B) (rest : List ℕ) → h.Fits b → h.read (from place (h.spell b ++ rest)) ≡ Ok (b, from (place + length (h.spell b)) rest)
  same_again place b rest hb =
      let a : Behind b = behind b hb in
      let here : f.read (from place (f.spell a.value ++ rest)) ≡ Ok (a.value, from (place + length (f.spell a.value)) rest) = F.code.again place a.value rest a.fits in
      same.reads (from place (h.spell b ++ rest)) ∙ rw (a.spelled, here, a.is) refl

  same_found : (r : Reading) (b : B) (s : Reading) → AreBytes r.rest → h.read r ≡ Ok (b, s) → h.Fits b × Takes r (h.spell b) s
  same_found r b s bytes e =
      let x : (x : A × Reading) × (f.read r ≡ Ok x) × ((let q : Result (B × Reading) ℕ = Ok (view x.0, x.1) in q) ≡ Ok (b, s)) =
      chain_ok (f.read r) (λ x. Ok (view x.0, x.1)) (b, s) (sym (same.reads r) ∙ e) in
      let parts : (view x.0.0 ≡ b) × (x.0.1 ≡ s) = ok_parts (view x.0.0) b x.0.1 s x.2 in
      let found : f.Fits x.0.0 × Takes r (f.spell x.0.0) x.0.1 = F.code.found r x.0.0 x.0.1 bytes x.1 in
      let fits : h.Fits (view x.0.0) × (h.spell (view x.0.0) ≡ f.spell x.0.0) = same.fits x.0.0 found.0 in
      let spelled : f.spell x.0.0 ≡ h.spell b = sym fits.1 ∙ ap h.spell parts.0 in (
        subst h.Fits parts.0 fits.0,
        subst (λ (run : List ℕ). Takes r run s) spelled (subst (λ (t : Reading). Takes r (f.spell x.0.0) t) parts.1 found.1),
      )

  same_refused : (r : Reading) (place : ℕ) → AreBytes r.rest → h.read r ≡ Err place → Longest h.Run r place
  same_refused r place bytes e = elim (chain_err (f.read r) (λ x. Ok (view x.0, x.1)) place (sym (same.reads r) ∙ e)) [
    | inl refused ↦
        let l : Longest f.Run r place = F.refused r place bytes refused in
        record {
          run = l.run;
          left = l.left;
          whole = (same.run l.run).1 l.whole;
          bytes = l.bytes;
          place = l.place;
          longest = λ run more is front. l.longest run more ((same.run run).0 is) front;
        }
    | inr x ↦ absurd (cc x.2)
  ]

  pub same_laws : IsFormat h
  same_laws = record {
    code = record { again = same_again; found = same_found };
    all = λ b hb. let a : Behind b = behind b hb in (same.run (h.spell b)).1 (subst f.Run (sym a.spelled) (F.all a.value a.fits));
    runs = λ b run more rest hb is e.
        let a : Behind b = behind b hb in
        omega (arith, F.runs a.value run more rest a.fits ((same.run run).0 is) (e ∙ ap (λ (bytes : List ℕ). bytes ++ rest) a.spelled), ap length a.spelled);
    refused = same_refused;
  }

pub by_laws : {A B : Type 0} → (view : A → B) (unview : B → A) (f : Format A) → IsFormat f → ((a : A) → f.Fits a → unview (view a) ≡ a) → ((b : B) → f.Fits (unview b) → view (unview b) ≡ b) → IsFormat (by view unview f)
by_laws view unview f F back forth = same_laws view f (by view unview f) F (record {
  fits = λ a h. (subst f.Fits (sym (back a h)) h, ap f.spell (back a h));
  onto = λ b h. (unview b, h, forth b h);
  run = λ run. (λ h. h, λ h. h);
  reads = λ r. refl;
})

-- items, one after another: none, or the first and those after it
abbrev items : {A : Type 0} → (Option A → Format A) → ℕ → Option A → Format (List A)
items g n last = record { Fits = items_fit g n last; spell = items_spelled g last; Run = items_run g n last; read = items_at g n last }

consed : {A : Type 0} → (x : A) (r : Result (List A × Reading) ℕ) → ◌>>=◌ {B = List A × Reading} r (λ y. Ok (x ∷ y.0, y.1)) ≡ ◌>>=◌ {B = List A × Reading} (◌>>=◌ {B = (A × List A) × Reading} r (λ y. Ok ((x, y.0), y.1))) (λ z. Ok (z.0.0 ∷ z.0.1, z.1))
consed x (Ok y) = refl
consed x (Err place) = refl

first_consed : {A : Type 0} → (r : Result (A × Reading) ℕ) (k : A × Reading → Result (List A × Reading) ℕ) → ◌>>=◌ {B = List A × Reading} r (λ x. ◌>>=◌ {B = List A × Reading} (k x) (λ y. Ok (x.0 ∷ y.0, y.1))) ≡ ◌>>=◌ {B = List A × Reading} (◌>>=◌ {B = (A × List A) × Reading} r (λ x. ◌>>=◌ {B = (A × List A) × Reading} (k x) (λ y. Ok ((x.0, y.0), y.1)))) (λ z. Ok (z.0.0 ∷ z.0.1, z.1))
first_consed (Ok x) k = consed x.0 (k x)
first_consed (Err place) k = refl

module _ {A : Type 0} (g : Option A → Format A) where
  first_of_items : (n : ℕ) (last : Option A) (xs : List A) → items_fit g (suc n) last xs → (p : A × List A) × ((g last).Fits p.0 × items_fit g n (Some p.0) p.1) × (p.0 ∷ p.1 ≡ xs)
  unfolding items_fit
  first_of_items n last [] h = absurd h
  first_of_items n last (x ∷ xs) h = ((x, xs), h, refl)

  none_again : (last : Option A) (place : ℕ) (xs : List A) (rest : List ℕ) → items_fit g zero last xs → items_at g zero last (from place (items_spelled g last xs ++ rest)) ≡ Ok (xs, from (place + length (items_spelled g last xs)) rest)
  unfolding items_fit items_spelled items_at
  none_again last place [] rest h = ap (λ (n : ℕ). Ok ([], from n rest)) (omega arith)
  none_again last place (x ∷ xs) rest h = absurd h

  none_all : (last : Option A) (xs : List A) → items_fit g zero last xs → items_run g zero last (items_spelled g last xs)
  unfolding items_fit items_spelled items_run
  none_all last [] h = refl
  none_all last (x ∷ xs) h = absurd h

  none_laws : (last : Option A) → IsFormat (items g zero last)
  unfolding items_fit items_spelled items_run items_at
  none_laws last = record {
    code = record {
      again = none_again last;
      found = λ r xs s b e.
          let parts : ([] ≡ xs) × (r ≡ s) = ok_parts [] xs r s e in
          let none : items_fit g zero last [] × Takes r (items_spelled g last []) r = (tt, record { place = omega arith; rest = refl }) in
          let seen : items_fit g zero last xs × Takes r (items_spelled g last xs) r =
          subst (λ (ys : List A). items_fit g zero last ys × Takes r (items_spelled g last ys) r) parts.0 none in
          subst (λ (t : Reading). items_fit g zero last xs × Takes r (items_spelled g last xs) t) parts.1 seen;
    };
    all = none_all last;
    runs = λ xs run more rest h is e. rw is (omega arith);
    refused = λ r place b e. absurd (cc e);
  }

  module _ (G : (last : Option A) → IsFormat (g last)) where
    items_laws : (n : ℕ) (last : Option A) → IsFormat (items g n last)
    unfolding items_fit items_spelled items_run items_at
    items_laws zero last = none_laws last
    items_laws (suc n) last =
        same_laws (λ p. p.0 ∷ p.1) (both (g last) (λ x. items g n (Some x))) (items g (suc n) last)
        (both_laws (g last) (λ x. items g n (Some x)) (G last) (λ x. items_laws n (Some x)))
        (record {
          fits = λ p h. (h, refl);
          onto = λ xs h. first_of_items n last xs h;
          run = λ run. (λ h. h, λ h. h);
          reads = λ r. first_consed ((g last).read r) (λ x. items_at g n (Some x.0) x.1);
        })

    pub times_laws : (n : ℕ) → IsFormat (times g n)
    times_laws n = items_laws n None

  pub length-items : (n : ℕ) (last : Option A) (xs : List A) → items_fit g n last xs → length xs ≡ n
  unfolding items_fit
  length-items zero last [] h = refl
  length-items zero last (x ∷ xs) h = absurd h
  length-items (suc n) last [] h = absurd h
  length-items (suc n) last (x ∷ xs) h = ap suc (length-items n (Some x) xs h.1)

-- each value has one spelling, and no spelling begins another
pub one_spelling : {A : Type 0} → (f : Format A) → IsFormat f → HasOneSpelling f
one_spelling f F x y bytes hx hy =
    (one_value f.Fits f.spell f.read F.code x y [] [] hx.0 hy.0 (append-nil (f.spell x) ∙ sym hx.1 ∙ hy.1 ∙ sym (append-nil (f.spell y)))).0

pub no_prefix : {A : Type 0} → (f : Format A) → IsFormat f → HasNoPrefix f
no_prefix f F x y bytes more hx hy =
    let e : f.spell x ++ more ≡ f.spell y ++ [] = ap (λ (b : List ℕ). b ++ more) (sym hx.1) ∙ hy.1 ∙ sym (append-nil (f.spell y)) in
    ap length (one_value f.Fits f.spell f.read F.code x y more [] hx.0 hy.0 e).1
