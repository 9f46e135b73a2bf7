-- What is read is no longer than the bytes that it was read from.
use Rattle.std.proofs.Common.{◌≡◌, ℕ, zero, suc, ◌+◌, ◌-◌, ◌≤◌, Bool, true, false, List, [], ◌∷◌, length, take, drop, ap, sym, refl, subst, arith, Ok, Err, Result, Option, Some, None, option_map, nat_lt, if◌then◌else◌}
use Rattle.std.specs.List.{sum_by}
use Rattle.std.proofs.lemmas.List.Sums.{sum_by-cons}
use Rattle.std.proofs.lemmas.List.{length-drop, length-take-le}
use Rattle.std.proofs.lemmas.Bool.{ltb-false}
use Rattle.jam_codec.specs.Reading.{Reading, ◌>>=◌, natural_at, natural_of, moved, bytes_at, tail_after, joined, least_with}
use Rattle.jam_codec.specs.Format.{Format, items_at}
use Rattle.jam_codec.specs.Lists.{blob_where, map_entry}
use Rattle.jam_codec.specs.FormatLaws.{chain_ok, ok_parts}
use Rattle.jam_fields.specs.SortedLaws.{BlobRead, blob_read}

chosen : (b c : Bool) (n m : ℕ) (xs ys : List ℕ) → if◌then◌else◌ {A = Option (ℕ × List ℕ)} b None (if◌then◌else◌ {A = Option (ℕ × List ℕ)} c None (Some (n, xs))) ≡ Some (m, ys) → xs ≡ ys
chosen true c n m xs ys e = absurd (cc e)
chosen false true n m xs ys e = absurd (cc e)
chosen false false n m xs ys e = let pairs : (let p : ℕ × List ℕ = (n, xs) in p) ≡ (m, ys) = cc in ap (λ p. p.1) pairs

natural_left : (bytes : List ℕ) (n : ℕ) (rest : List ℕ) → natural_of bytes ≡ Some (n, rest) → length rest ≤ length bytes
unfolding natural_of
natural_left [] n rest e = absurd (cc e)
natural_left (first ∷ tail) n rest e =
    let l = tail_after first in
    let same : drop l tail ≡ rest = chosen (nat_lt (length tail) l) (nat_lt (joined first l tail) (least_with l)) (joined first l tail) n (drop l tail) rest e in
    omega (arith, length-drop l tail, ap length same)

found_in : (r : Reading) (found : Option (ℕ × List ℕ)) (n : ℕ) (s : Reading) → moved r found ≡ Ok (n, s) → (p : ℕ × List ℕ) × (found ≡ Some p) × (p.1 ≡ s.rest)
found_in r None n s e = absurd (cc e)
found_in r (Some p) n s e =
    let parts : (p.0 ≡ n) × (record { place = r.place + (length r.rest - length p.1); rest = p.1 } ≡ s) = ok_parts p.0 n (record { place = r.place + (length r.rest - length p.1); rest = p.1 }) s e in
    (p, refl, ap (λ (t : Reading). t.rest) parts.1)

pub natural_size : (r : Reading) (n : ℕ) (s : Reading) → natural_at r ≡ Ok (n, s) → length s.rest ≤ length r.rest
unfolding natural_at
natural_size r n s e =
    let found : (p : ℕ × List ℕ) × (natural_of r.rest ≡ Some p) × (p.1 ≡ s.rest) = found_in r (natural_of r.rest) n s e in
    omega (arith, natural_left r.rest found.0.0 found.0.1 found.1, ap length found.2)

within : (b : Bool) (place : ℕ) (xs ys : List ℕ) (r s : Reading) → if◌then◌else◌ {A = Result (List ℕ × Reading) ℕ} b (Err place) (Ok (xs, r)) ≡ Ok (ys, s) → (b ≡ false) × (xs ≡ ys) × (r ≡ s)
within true place xs ys r s e = absurd (cc e)
within false place xs ys r s e = let parts : (xs ≡ ys) × (r ≡ s) = ok_parts xs ys r s e in (refl, parts.0, parts.1)

pub bytes_size : (n : ℕ) (r : Reading) (bytes : List ℕ) (s : Reading) → bytes_at n r ≡ Ok (bytes, s) → length bytes + length s.rest ≡ length r.rest
unfolding bytes_at
bytes_size n r bytes s e =
    let found : (nat_lt (length r.rest) n ≡ false) × (take n r.rest ≡ bytes) × (record { place = r.place + n; rest = drop n r.rest } ≡ s) = within (nat_lt (length r.rest) n) r.place (take n r.rest) bytes (record { place = r.place + n; rest = drop n r.rest }) s e in
    let enough : n ≤ length r.rest = ltb-false (length r.rest) n found.0 in
    omega (arith, enough, length-take-le n r.rest enough, length-drop n r.rest, ap length found.1, ap (λ (t : Reading). length t.rest) found.2)

pub blob_size : (test : List ℕ → Bool) (r : Reading) (bytes : List ℕ) (s : Reading) → (blob_where test).read r ≡ Ok (bytes, s) → length bytes + length s.rest ≤ length r.rest
blob_size test r bytes s e =
    let b : BlobRead test r bytes s = blob_read test r bytes s e in
    omega (arith, natural_size r b.count b.mid b.length, bytes_size b.count b.mid bytes s b.body)

joined_sizes : (a b all mid end : ℕ) → a + mid ≤ all → b + end ≤ mid → a + b + end ≤ all
joined_sizes a b all mid end p q = omega arith

-- a weight of items that their bytes bear
abbrev pub Bears : {A : Type 0} → Format A → (A → ℕ) → Type 0
Bears {A} f weight = (r : Reading) (x : A) (s : Reading) → f.read r ≡ Ok (x, s) → weight x + length s.rest ≤ length r.rest

pub entry_size : {K V : Type 0} (key : Option K → Format K) (value : Format V) (of_key : K → ℕ) (of_value : V → ℕ) → ((last : Option K) → Bears (key last) of_key) → Bears value of_value → (last : Option (K × V)) → Bears (map_entry key value last) (λ e. of_key e.0 + of_value e.1)
entry_size {K} {V} key value of_key of_value bears_key bears_value last r x s e =
    let before : Option K = option_map (λ (p : K × V). p.0) last in
    let k : (k : K × Reading) × ((key before).read r ≡ Ok k) × ((value.read k.1 >>= λ y. Ok ((k.0, y.0), y.1)) ≡ Ok (x, s)) =
    chain_ok ((key before).read r) (λ k. value.read k.1 >>= λ y. Ok ((k.0, y.0), y.1)) (x, s) e in
    let v : (v : V × Reading) × (value.read k.0.1 ≡ Ok v) × ((let q : Result ((K × V) × Reading) ℕ = Ok ((k.0.0, v.0), v.1) in q) ≡ Ok (x, s)) =
    chain_ok (value.read k.0.1) (λ y. Ok ((k.0.0, y.0), y.1)) (x, s) k.2 in
    let parts : ((k.0.0, v.0.0) ≡ x) × (v.0.1 ≡ s) = ok_parts (k.0.0, v.0.0) x v.0.1 s v.2 in
    let front : of_key k.0.0 + length k.0.1.rest ≤ length r.rest = bears_key before r k.0.0 k.0.1 k.1 in
    let back : of_value v.0.0 + length v.0.1.rest ≤ length k.0.1.rest = bears_value k.0.1 v.0.0 v.0.1 v.1 in
    subst (λ (q : K × V). of_key q.0 + of_value q.1 + length s.rest ≤ length r.rest) parts.0
    (subst (λ (t : Reading). of_key k.0.0 + of_value v.0.0 + length t.rest ≤ length r.rest) parts.1
    (joined_sizes (of_key k.0.0) (of_value v.0.0) (length r.rest) (length k.0.1.rest) (length v.0.1.rest) front back))

pub items_size : {A : Type 0} (g : Option A → Format A) (weight : A → ℕ) → ((last : Option A) → Bears (g last) weight) → (n : ℕ) (last : Option A) (r : Reading) (xs : List A) (s : Reading) → items_at g n last r ≡ Ok (xs, s) → sum_by weight xs + length s.rest ≤ length r.rest
unfolding items_at
items_size g weight bears zero last r xs s e =
    let parts : ([] ≡ xs) × (r ≡ s) = ok_parts [] xs r s e in
    omega (arith, ap (sum_by weight) parts.0, ap (λ (t : Reading). length t.rest) parts.1)
items_size {A} g weight bears (suc n) last r xs s e =
    let x : (x : A × Reading) × ((g last).read r ≡ Ok x) × ((items_at g n (Some x.0) x.1 >>= λ y. Ok (x.0 ∷ y.0, y.1)) ≡ Ok (xs, s)) =
    chain_ok ((g last).read r) (λ x. items_at g n (Some x.0) x.1 >>= λ y. Ok (x.0 ∷ y.0, y.1)) (xs, s) e in
    let y : (y : List A × Reading) × (items_at g n (Some x.0.0) x.0.1 ≡ Ok y) × ((let q : Result (List A × Reading) ℕ = Ok (x.0.0 ∷ y.0, y.1) in q) ≡ Ok (xs, s)) =
    chain_ok (items_at g n (Some x.0.0) x.0.1) (λ y. Ok (x.0.0 ∷ y.0, y.1)) (xs, s) x.2 in
    let parts : (x.0.0 ∷ y.0.0 ≡ xs) × (y.0.1 ≡ s) = ok_parts (x.0.0 ∷ y.0.0) xs y.0.1 s y.2 in
    let front : weight x.0.0 + length x.0.1.rest ≤ length r.rest = bears last r x.0.0 x.0.1 x.1 in
    let back : sum_by weight y.0.0 + length y.0.1.rest ≤ length x.0.1.rest = items_size g weight bears n (Some x.0.0) x.0.1 y.0.0 y.0.1 y.1 in
    subst (λ (ys : List A). sum_by weight ys + length s.rest ≤ length r.rest) parts.0
    (subst (λ (t : Reading). sum_by weight (x.0.0 ∷ y.0.0) + length t.rest ≤ length r.rest) parts.1
    (subst (λ n. n + length y.0.1.rest ≤ length r.rest) (sym (sum_by-cons weight x.0.0 y.0.0))
    (joined_sizes (weight x.0.0) (sum_by weight y.0.0) (length r.rest) (length x.0.1.rest) (length y.0.1.rest) front back)))
