-- Costs that are read one after another into an array, and written from it.
use Rattle.std.proofs.Common.{◌≡◌, ℕ, zero, suc, ◌+◌, ◌-◌, ◌*◌, ◌^◌, ◌<◌, Bool, true, ◌&&◌, nat_le, List, [], ◌∷◌, ◌++◌, length, take, refl, sym, ap, ◌∙◌, subst, arith, Option, Some, None, Result, Ok, append_assoc, take_all, if◌then◌else◌}
use Rattle.std.specs.Prelude.{slice_set}
use Rattle.std.specs.List.{All, list_all}
use Rattle.std.proofs.lemmas.Grind.{take-set_at, common_steps}
use Rattle.std.proofs.lemmas.Bool.{and_parts}
use Rattle.byte_numbers.specs.Numbers.{little_endian}
use Rattle.jam_codec.specs.Reading.{Reading, Refuses, fixed_at, ◌>>=◌}
use Rattle.jam_codec.specs.Format.{Format, any, fixed_where, items_at, items_fit, items_spelled}
use Rattle.jam_codec.specs.FormatLaws.{chain_ok, ok_parts, passing_ok}
use Rattle.jam_fields.specs.ItemLaws.{Ahead, none_read, one_read, one_refused, all_read}

abbrev pub cost : ℕ → ℕ → Option ℕ → Format ℕ
cost width least last = fixed_where width (nat_le least)

-- the first i of n costs were read
abbrev pub Begun : ℕ → ℕ → ℕ → ℕ → List ℕ → Reading → Reading → Type 0
Begun width least n i costs old r = Ahead (cost width least) (items_at (cost width least) n None old) (take i costs) (n - i) r

pub none_of_costs : (width least n : ℕ) (r : Reading) → Ahead (cost width least) (items_at (cost width least) n None r) [] n r
none_of_costs width least n r = none_read (cost width least) n r

pub same_size : (costs : List ℕ) (i x n : ℕ) → length costs ≡ n → length (slice_set costs i x) ≡ n
same_size costs i x n size = grind (arith, common_steps)

module _ (width least n i : ℕ) (costs : List ℕ) (old r : Reading) where
  pub one_cost : (x : ℕ) (s : Reading) → Begun width least n i costs old r → i < n → length costs ≡ n → (fixed_where width (nat_le least)).read r ≡ Ok (x, s) → Begun width least n (i + 1) (slice_set costs i x) old s
  one_cost x s begun within size read =
      let count : n - i ≡ suc (n - (i + 1)) = omega arith in
      subst (λ front. Ahead (cost width least) (items_at (cost width least) n None old) front (n - (i + 1)) s) (sym (take-set_at costs i (i + 1) x refl (omega arith)))
      (one_read (cost width least) (items_at (cost width least) n None old) (take i costs) (n - i) r (n - (i + 1)) x s begun count read)

  pub cost_refused : (place : Option ℕ) → Begun width least n i costs old r → i < n → Refuses place ((fixed_where width (nat_le least)).read r) → Refuses place (items_at (cost width least) n None old)
  cost_refused place begun within refused =
      let count : n - i ≡ suc (n - (i + 1)) = omega arith in
      one_refused (cost width least) (items_at (cost width least) n None old) (take i costs) (n - i) r (n - (i + 1)) place begun count refused

  pub all_costs : Begun width least n i costs old r → i ≡ n → length costs ≡ n → items_at (cost width least) n None old ≡ Ok (costs, r)
  all_costs begun end size =
      all_read (cost width least) (items_at (cost width least) n None old) (take i costs) (n - i) r begun (omega arith)
      ∙ ap (λ (xs : List ℕ). Ok (xs, r)) (take_all i costs (omega arith))

-- each cost that was read passes its test
pub both_hold : (a b : Bool) → a ≡ true → b ≡ true → (a && b) ≡ true
both_hold a b p q = rw (p, q) refl

pub costs_pass : (width least n : ℕ) (last : Option ℕ) (r : Reading) (xs : List ℕ) (s : Reading) → items_at (cost width least) n last r ≡ Ok (xs, s) → list_all (nat_le least) xs ≡ true
unfolding items_at
costs_pass width least zero last r xs s e = ap (list_all (nat_le least)) (sym (ok_parts [] xs r s e).0)
costs_pass width least (suc n) last r xs s e =
    let x : (x : ℕ × Reading) × ((fixed_where width (nat_le least)).read r ≡ Ok x) × ((items_at (cost width least) n (Some x.0) x.1 >>= λ y. Ok (x.0 ∷ y.0, y.1)) ≡ Ok (xs, s)) =
    chain_ok ((fixed_where width (nat_le least)).read r) (λ x. items_at (cost width least) n (Some x.0) x.1 >>= λ y. Ok (x.0 ∷ y.0, y.1)) (xs, s) e in
    let y : (y : List ℕ × Reading) × (items_at (cost width least) n (Some x.0.0) x.0.1 ≡ Ok y) × ((let q : Result (List ℕ × Reading) ℕ = Ok (x.0.0 ∷ y.0, y.1) in q) ≡ Ok (xs, s)) =
    chain_ok (items_at (cost width least) n (Some x.0.0) x.0.1) (λ y. Ok (x.0.0 ∷ y.0, y.1)) (xs, s) x.2 in
    let first : nat_le least x.0.0 ≡ true = (passing_ok (nat_le least) r.place (fixed_at width r) x.0.0 x.0.1 x.1).1 in
    ap (list_all (nat_le least)) (sym (ok_parts (x.0.0 ∷ y.0.0) xs y.0.1 s y.2).0) ∙ both_hold (nat_le least x.0.0) (list_all (nat_le least) y.0.0) first (costs_pass width least n (Some x.0.0) x.0.1 y.0.0 y.0.1 y.1)

pub chosen : {X : Type 0} (b : Bool) (x : X) → b ≡ true → (if◌then◌else◌ {A = Option X} b (Some x) None) ≡ Some x
chosen b x e = rw e refl

-- a test does not change how numbers are spelled
pub costs_spelled : (width least : ℕ) (last : Option ℕ) (xs : List ℕ) → items_spelled (λ _. fixed_where width any) last xs ≡ items_spelled (cost width least) last xs
unfolding items_spelled
costs_spelled width least last [] = refl
costs_spelled width least last (x ∷ xs) = ap (λ (bytes : List ℕ). little_endian width x ++ bytes) (costs_spelled width least (Some x) xs)

pub costs_fit : (width least : ℕ) (last : Option ℕ) (xs : List ℕ) → All (λ x. x < 2 ^ (8 * width)) xs → list_all (nat_le least) xs ≡ true → items_fit (cost width least) (length xs) last xs
unfolding items_fit
costs_fit width least last [] small pass = tt
costs_fit width least last (x ∷ xs) small pass =
    let parts : (nat_le least x ≡ true) × (list_all (nat_le least) xs ≡ true) = and_parts (nat_le least x) (list_all (nat_le least) xs) pass in
    ((small 0 0 (omega arith), parts.0), costs_fit width least (Some x) xs (λ k d within. small (suc k) d (omega arith)) parts.1)

-- three parts added one after another, the last two spelled otherwise
pub added : (old one two a b c d e : List ℕ) → one ≡ old ++ a → two ≡ one ++ b → b ≡ d → c ≡ e → two ++ c ≡ old ++ (a ++ (d ++ e))
added old one two a b c d e p q r s = rw (q, p, r, s, append_assoc (old ++ a) d e, append_assoc old a (d ++ e)) refl
