-- The laws of a whole file, and of one whose last part may be missing.
use Rattle.std.proofs.Common.{◌≡◌, ℕ, ◌+◌, ◌<◌, Bool, true, false, List, [], ◌++◌, length, refl, sym, ap, ◌∙◌, subst, arith, inl, inr, ◌⊎◌, Result, Ok, Err, Option, Some, None, nat_lt, if◌then◌else◌, append-nil, append_assoc, length-append}
use Rattle.std.proofs.lemmas.List.{nil_from_length}
use Rattle.std.proofs.lemmas.Bool.{ltb-false, lt-ltb}
use Rattle.jam_codec.specs.Reading.{Reading, Takes, ◌>>=◌}
use Rattle.jam_codec.specs.Format.{Format, Spells, from, whole, both, by}
use Rattle.jam_codec.specs.Lists.{some_spelled, tail_fits, tail_at, with_tail}
use Rattle.byte_numbers.specs.Numbers.{AreBytes}
use Rattle.jam_codec.specs.Laws.{Longest, IsFormat, IsFileFormat, SpellsNone, HasOneSpelling, HasOnePrefix}
use Rattle.jam_codec.specs.JoinLaws.{chain_ok, chain_err, read_here, one_value, both_laws}

-- what is left after the value, none or some
abbrev end_of : {A : Type 0} → A × Reading → Result A ℕ
end_of x = if nat_lt 0 (length x.1.rest) then Err x.1.place else Ok x.0

ended : {X : Type 0} → (b : Bool) (place : ℕ) (x y : X) → (if b then Err place else Ok x) ≡ Ok y → (b ≡ false) × (x ≡ y)
ended true place x y e = absurd (cc e)
ended false place x y e = (refl, cc)

not_ended : {X : Type 0} → (b : Bool) (here place : ℕ) (x : X) → (if b then Err here else Ok x) ≡ Err place → here ≡ place
not_ended true here place x e = cc
not_ended false here place x e = absurd (cc e)

module _ {A : Type 0} (f : Format A) (F : IsFormat f) where
  pub whole-found : (bytes : List ℕ) (x : A) → AreBytes bytes → whole f bytes ≡ Ok x → Spells f x bytes
  whole-found bytes x b e =
      let y : (y : A × Reading) × (f.read (from 0 bytes) ≡ Ok y) × (end_of y ≡ Ok x) = chain_ok (f.read (from 0 bytes)) (λ y. end_of y) x e in
      let end : (nat_lt 0 (length y.0.1.rest) ≡ false) × (y.0.0 ≡ x) = ended (nat_lt 0 (length y.0.1.rest)) y.0.1.place y.0.0 x y.2 in
      let found : f.Fits y.0.0 × Takes (from 0 bytes) (f.spell y.0.0) y.0.1 = F.code.found (from 0 bytes) y.0.0 y.0.1 b y.1 in
      let none : y.0.1.rest ≡ [] = nil_from_length y.0.1.rest (omega (arith, ltb-false 0 (length y.0.1.rest) end.0)) in
      let all : bytes ≡ f.spell y.0.0 = found.1.rest ∙ ap (λ (rest : List ℕ). f.spell y.0.0 ++ rest) none ∙ append-nil (f.spell y.0.0) in
      subst (λ (z : A). Spells f z bytes) end.1 (found.0, all)

  pub whole-again : (bytes : List ℕ) (x : A) → Spells f x bytes → whole f bytes ≡ Ok x
  whole-again bytes x h =
      let here : f.read (from 0 bytes) ≡ Ok (x, from (0 + length (f.spell x)) []) =
      read_here f.Fits f.spell f.read F.code (from 0 bytes) x [] h.0 (h.1 ∙ sym (append-nil (f.spell x))) in
      rw here refl

  pub whole-refused : (bytes : List ℕ) (place : ℕ) → AreBytes bytes → whole f bytes ≡ Err place → Longest f.Run (from 0 bytes) place
  whole-refused bytes place b e = elim (chain_err (f.read (from 0 bytes)) (λ y. end_of y) place e) [
    | inl refused ↦ F.refused (from 0 bytes) place b refused
    | inr y ↦
        let end : y.0.1.place ≡ place = not_ended (nat_lt 0 (length y.0.1.rest)) y.0.1.place place y.0.0 y.2 in
        let found : f.Fits y.0.0 × Takes (from 0 bytes) (f.spell y.0.0) y.0.1 = F.code.found (from 0 bytes) y.0.0 y.0.1 b y.1 in
        record {
          run = f.spell y.0.0;
          left = y.0.1.rest;
          whole = F.all y.0.0 found.0;
          bytes = found.1.rest;
          place = omega (arith, found.1.place, end);
          longest = λ run more is front. F.runs y.0.0 run more y.0.1.rest found.0 is (sym front ∙ found.1.rest);
        }
  ]

  pub file_laws : IsFileFormat f
  file_laws = record { again = λ x h. whole-again (f.spell x) x (h, refl); found = whole-found; refused = whole-refused }

-- where nothing is read, nothing is spelled
pub refused-none : {A : Type 0} (f : Format A) → IsFileFormat f → (bytes : List ℕ) (place : ℕ) → whole f bytes ≡ Err place → SpellsNone f bytes
refused-none f F bytes place refused x h = cc (sym refused ∙ ap (whole f) h.1 ∙ F.again x h.0)

pub one_spelling_of_file : {A : Type 0} (f : Format A) → IsFileFormat f → HasOneSpelling f
one_spelling_of_file f F x y bytes p q = cc (sym (F.again x p.0) ∙ ap (whole f) (sym p.1 ∙ q.1) ∙ F.again y q.0)

-- the same files, seen as another value
abbrev mapped : {A B : Type 0} → (A → B) → Result A ℕ → Result B ℕ
mapped view (Ok x) = Ok (view x)
mapped view (Err place) = Err place

mapped-ok : {A B : Type 0} (view : A → B) (r : Result A ℕ) (b : B) → mapped view r ≡ Ok b → (a : A) × (r ≡ Ok a) × (view a ≡ b)
mapped-ok view (Ok a) b e = (a, refl, cc)
mapped-ok view (Err place) b e = absurd (cc e)

mapped-err : {A B : Type 0} (view : A → B) (r : Result A ℕ) (place : ℕ) → mapped view r ≡ Err place → r ≡ Err place
mapped-err view (Ok a) place e = absurd (cc e)
mapped-err view (Err here) place e = let same : here ≡ place = cc in ap Err same

ended_by : {A B : Type 0} (view : A → B) (b : Bool) (place : ℕ) (x : A) → if◌then◌else◌ {A = Result B ℕ} b (Err place) (Ok (view x)) ≡ mapped view (if◌then◌else◌ {A = Result A ℕ} b (Err place) (Ok x))
ended_by view true place x = refl
ended_by view false place x = refl

at_end : {X : Type 0} → (x : X × Reading) → nat_lt 0 (length x.1.rest) ≡ false → end_of x ≡ Ok x.0
at_end x e = rw e refl

module _ {A B : Type 0} (view : A → B) (unview : B → A) (f : Format A) (F : IsFileFormat f) where
  read_by : (r : Result (A × Reading) ℕ) → ◌>>=◌ {B = B} (◌>>=◌ {B = B × Reading} r (λ x. Ok (view x.0, x.1))) (λ y. end_of y) ≡ mapped view (◌>>=◌ {B = A} r (λ x. end_of x))
  read_by (Ok x) = ended_by view (nat_lt 0 (length x.1.rest)) x.1.place x.0
  read_by (Err place) = refl

  whole-by : (bytes : List ℕ) → whole (by view unview f) bytes ≡ mapped view (whole f bytes)
  whole-by bytes = read_by (f.read (from 0 bytes))

  pub by_file_laws : ((a : A) → unview (view a) ≡ a) → ((b : B) → view (unview b) ≡ b) → IsFileFormat (by view unview f)
  by_file_laws back forth = record {
    again = λ b h. whole-by (f.spell (unview b)) ∙ ap (λ r. mapped view r) (F.again (unview b) h) ∙ ap Ok (forth b);
    found = λ bytes b are e.
        let a : (a : A) × (whole f bytes ≡ Ok a) × (view a ≡ b) = mapped-ok view (whole f bytes) b (sym (whole-by bytes) ∙ e) in
        subst (λ x. Spells f x bytes) (sym (back a.0) ∙ ap unview a.2) (F.found bytes a.0 are a.1);
    refused = λ bytes place are e. F.refused bytes place are (mapped-err view (whole f bytes) place (sym (whole-by bytes) ∙ e));
  }

-- one part to the end, or two
module _ {A B : Type 0} (f : Format A) (g : Format B) (F : IsFormat f) (G : IsFormat g) where
  abbrev pair : Format (A × B)
  pair = both f (λ x. g)

  Pair : IsFormat pair
  Pair = both_laws f (λ x. g) F (λ x. G)

  abbrev present : A × B → A × Option B
  present p = (p.0, Some p.1)

  abbrev tailed : Result (A × Reading) ℕ → Result (A × Option B) ℕ
  tailed r = ◌>>=◌ {B = (A × Option B) × Reading} r (λ x. tail_at g x.1 >>= λ y. Ok ((x.0, y.0), y.1)) >>= λ y. end_of y

  abbrev paired : Result (A × Reading) ℕ → Result (A × B) ℕ
  paired r = ◌>>=◌ {B = (A × B) × Reading} r (λ x. g.read x.1 >>= λ y. Ok ((x.0, y.0), y.1)) >>= λ y. end_of y

  both_parts : (x : A) (r : Result (B × Reading) ℕ) → ◌>>=◌ {B = A × Option B} (◌>>=◌ {B = (A × Option B) × Reading} (◌>>=◌ {B = Option B × Reading} r (λ y. Ok (Some y.0, y.1))) (λ y. Ok ((x, y.0), y.1))) (λ y. end_of y)
      ≡ mapped present (◌>>=◌ {B = A × B} (◌>>=◌ {B = (A × B) × Reading} r (λ y. Ok ((x, y.0), y.1))) (λ y. end_of y))
  both_parts x (Ok y) = ended_by present (nat_lt 0 (length y.1.rest)) y.1.place (x, y.0)
  both_parts x (Err place) = refl

  abbrev Parts : Result (A × Reading) ℕ → Type 0
  Parts r = ((x : A) × (◌>>=◌ {B = A} r (λ y. end_of y) ≡ Ok x) × (tailed r ≡ Ok (x, None))) ⊎ (tailed r ≡ mapped present (paired r))

  parts_here : (b : Bool) (x : A × Reading) → nat_lt 0 (length x.1.rest) ≡ b → Parts (Ok x)
  parts_here true x e = inr (rw e (both_parts x.0 (g.read x.1)))
  parts_here false x e = inl (x.0, at_end x e, rw e (at_end {X = A × Option B} ((x.0, None), x.1) e))

  parts_of : (r : Result (A × Reading) ℕ) → Parts r
  parts_of (Ok x) = parts_here (nat_lt 0 (length x.1.rest)) x refl
  parts_of (Err place) = inr refl

  tail-found : (bytes : List ℕ) (p : A × Option B) → AreBytes bytes → whole (with_tail f g) bytes ≡ Ok p → Spells (with_tail f g) p bytes
  tail-found bytes p are e = elim (parts_of (f.read (from 0 bytes))) [
    | inl one ↦
        let h : Spells f one.0 bytes = whole-found f F bytes one.0 are one.1 in
        let same : (let q : A × Option B = (one.0, None) in q) ≡ p = cc (one.2, e) in
        subst (λ q. Spells (with_tail f g) q bytes) same ((h.0, tt), h.1 ∙ sym (append-nil (f.spell one.0)))
    | inr two ↦
        let q : (q : A × B) × (whole pair bytes ≡ Ok q) × (present q ≡ p) = mapped-ok present (whole pair bytes) p (sym two ∙ e) in
        let h : Spells pair q.0 bytes = whole-found pair Pair bytes q.0 are q.1 in
        subst (λ o. Spells (with_tail f g) o bytes) q.2 h
  ]

  tail-refused : (bytes : List ℕ) (place : ℕ) → AreBytes bytes → whole (with_tail f g) bytes ≡ Err place → Longest (with_tail f g).Run (from 0 bytes) place
  tail-refused bytes place are e = elim (parts_of (f.read (from 0 bytes))) [
    | inl one ↦ absurd (cc (one.2, e))
    | inr two ↦ whole-refused pair Pair bytes place are (mapped-err present (whole pair bytes) place (sym two ∙ e))
  ]

  -- a second part takes some byte
  module _ (some : (y : B) → g.Fits y → 0 < length (g.spell y)) where
    tail-again : (x : A) (tail : Option B) → f.Fits x → tail_fits g tail → whole (with_tail f g) (f.spell x ++ some_spelled g tail) ≡ Ok (x, tail)
    tail-again x None hx hy =
        let first : f.read (from 0 (f.spell x ++ [])) ≡ Ok (x, from (0 + length (f.spell x)) []) = F.code.again 0 x [] hx in
        rw first refl
    tail-again x (Some y) hx hy =
        let n : ℕ = 0 + length (f.spell x) in
        let first : f.read (from 0 (f.spell x ++ g.spell y)) ≡ Ok (x, from (0 + length (f.spell x)) (g.spell y)) = F.code.again 0 x (g.spell y) hx in
        let second : g.read (from (0 + length (f.spell x)) (g.spell y)) ≡ Ok (y, from (0 + length (f.spell x) + length (g.spell y)) []) =
        read_here g.Fits g.spell g.read G.code (from (0 + length (f.spell x)) (g.spell y)) y [] hy (sym (append-nil (g.spell y))) in
        rw (first, lt-ltb 0 (length (g.spell y)) (some y hy), second) refl

    pub tail_laws : IsFileFormat (with_tail f g)
    tail_laws = record { again = λ p h. tail-again p.0 p.1 h.0 h.1; found = tail-found; refused = tail-refused }

    tail-prefix : (x y : A) (s t : Option B) (more : List ℕ) → tail_fits g s → tail_fits g t → x ≡ y → some_spelled g s ++ more ≡ some_spelled g t → (length more ≡ 0) ⊎ ((let p : A × Option B = (x, s) in p) ≡ (y, None))
    tail-prefix x y None t more hs ht e same = inr (ap (λ (a : A). (a, None)) e)
    tail-prefix x y (Some b) None more hs ht e same = absurd (omega (arith, some b hs, ap length same, length-append (g.spell b) more))
    tail-prefix x y (Some b) (Some c) more hs ht e same =
        inl (ap length (one_value g.Fits g.spell g.read G.code b c more [] hs ht (same ∙ sym (append-nil (g.spell c)))).1)

    pub tail_prefix : HasOnePrefix (with_tail f g) (λ p. (p.0, None))
    tail_prefix p q bytes more hp hq =
        let e : f.spell p.0 ++ (some_spelled g p.1 ++ more) ≡ f.spell q.0 ++ some_spelled g q.1 =
        sym (append_assoc (f.spell p.0) (some_spelled g p.1) more) ∙ ap (λ (b : List ℕ). b ++ more) (sym hp.1) ∙ hq.1 in
        let one : (p.0 ≡ q.0) × (some_spelled g p.1 ++ more ≡ some_spelled g q.1) =
        one_value f.Fits f.spell f.read F.code p.0 q.0 (some_spelled g p.1 ++ more) (some_spelled g q.1) hp.0.0 hq.0.0 e in
        tail-prefix p.0 q.0 p.1 q.1 more hp.0.1 hq.0.1 one.0 one.1
