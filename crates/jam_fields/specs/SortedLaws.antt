-- Rows whose keys ascend, and the finite maps that hold them.
use Rattle.std.proofs.Common.{◌≡◌, ℕ, zero, suc, Bool, true, List, [], ◌∷◌, ◌++◌, map, length, ap, sym, ◌∙◌, refl, subst, Ok, Result, Option, Some, None, option_map, Ordering, IfSome}
use Rattle.std.specs.Prelude.{T}
use Rattle.std.specs.declared.cmp.Ordering.TheVariants.{Less, Greater}
use Rattle.std.specs.Ordering.{nat_cmp, is_lt, ordering_reverse}
use Rattle.std.specs.Cmp.{IsTotalOrder}
use Rattle.std.specs.Cmp.Lexicographic.{slice_cmp}
use Rattle.std.specs.FinMap as fin
use Rattle.std.specs.FinMap.Entries.{put, below_all, is_sorted}
use Rattle.jam_codec.specs.Reading.{Reading, ◌>>=◌, natural_at, bytes_at, fixed_at}
use Rattle.jam_codec.specs.Format.{Format, any, both, natural_where, fixed_where, bytes_where, items_at, items_fit, times}
use Rattle.jam_codec.specs.Lists.{blob_where, list_of, map_of, map_entry, follows, blob_after, blob_by_after, number_after, hash_and_number_cmp, is_hash_from, hash_and_number_after}
use Rattle.jam_codec.specs.FormatLaws.{chain_ok, ok_parts, passing_ok, less_from, and_holds, left_holds, right_holds, less_holds, holds_less, below_lower}
use Rattle.jam_fields.specs.Rows.{last_item}
use Rattle.jam_fields.specs.ItemLaws.{last_item-cons}

-- each row stands so to the one before it
abbrev pub Ascend : {A : Type 0} → (A → A → Type 0) → Option A → List A → Type 0
Ascend P last [] = Unit {0}
Ascend P last (x ∷ xs) = IfSome last (λ l. P l x) × Ascend P (Some x) xs

module _ {A : Type 0} (g : Option A → Format A) (P : A → A → Type 0) where
  one_fits : ((l x : A) → (g (Some l)).Fits x → P l x) → (last : Option A) (x : A) → (g last).Fits x → IfSome last (λ l. P l x)
  one_fits rises None x h = tt
  one_fits rises (Some l) x h = rises l x h

  pub fit_ascend : ((l x : A) → (g (Some l)).Fits x → P l x) → (n : ℕ) (last : Option A) (xs : List A) → items_fit g n last xs → Ascend P last xs
  unfolding items_fit
  fit_ascend rises n last [] h = tt
  fit_ascend rises zero last (x ∷ xs) h = absurd h
  fit_ascend rises (suc n) last (x ∷ xs) h = (one_fits rises last x h.0, fit_ascend rises n (Some x) xs h.1)

  one_read : ((l x : A) (r s : Reading) → (g (Some l)).read r ≡ Ok (x, s) → P l x) → (last : Option A) (x : A) (r s : Reading) → (g last).read r ≡ Ok (x, s) → IfSome last (λ l. P l x)
  one_read rises None x r s e = tt
  one_read rises (Some l) x r s e = rises l x r s e

  pub read_ascend : ((l x : A) (r s : Reading) → (g (Some l)).read r ≡ Ok (x, s) → P l x) → (n : ℕ) (last : Option A) (r : Reading) (xs : List A) (s : Reading) → items_at g n last r ≡ Ok (xs, s) → Ascend P last xs
  unfolding items_at
  read_ascend rises zero last r xs s e =
      let parts : ([] ≡ xs) × (r ≡ s) = ok_parts [] xs r s e in
      subst (Ascend P last) parts.0 tt
  read_ascend rises (suc n) last r xs s e =
      let x : (x : A × Reading) × ((g last).read r ≡ Ok x) × ((items_at g n (Some x.0) x.1 >>= λ y. Ok (x.0 ∷ y.0, y.1)) ≡ Ok (xs, s)) =
      chain_ok ((g last).read r) (λ x. items_at g n (Some x.0) x.1 >>= λ y. Ok (x.0 ∷ y.0, y.1)) (xs, s) e in
      let y : (y : List A × Reading) × (items_at g n (Some x.0.0) x.0.1 ≡ Ok y) × ((let q : Result (List A × Reading) ℕ = Ok (x.0.0 ∷ y.0, y.1) in q) ≡ Ok (xs, s)) =
      chain_ok (items_at g n (Some x.0.0) x.0.1) (λ y. Ok (x.0.0 ∷ y.0, y.1)) (xs, s) x.2 in
      let parts : (x.0.0 ∷ y.0.0 ≡ xs) × (y.0.1 ≡ s) = ok_parts (x.0.0 ∷ y.0.0) xs y.0.1 s y.2 in
      subst (Ascend P last) parts.0 (one_read rises last x.0.0 r x.0.1 x.1, read_ascend rises n (Some x.0.0) x.0.1 y.0.0 y.0.1 y.1)

module _ {A K V : Type 0} (R : K → K → Ordering) (total : IsTotalOrder R) (entry : A → K × V) where
  above_last : (l : A) (xs : List A) → Ascend (λ a b. R (entry a).0 (entry b).0 ≡ Less) (Some l) xs → T (below_all R (entry l).0 (map entry xs)) × T (is_sorted R (map entry xs))
  above_last l [] h = (tt, tt)
  above_last l (x ∷ xs) h =
      let rest : T (below_all R (entry x).0 (map entry xs)) × T (is_sorted R (map entry xs)) = above_last x xs h.1 in (
        and_holds (is_lt (R (entry l).0 (entry x).0)) (below_all R (entry l).0 (map entry xs)) (less_holds (R (entry l).0 (entry x).0) h.0)
            (below_lower R total (entry l).0 (entry x).0 (map entry xs) h.0 rest.0),
        and_holds (below_all R (entry x).0 (map entry xs)) (is_sorted R (map entry xs)) rest.0 rest.1,
      )

  pub rows_sorted : (xs : List A) → Ascend (λ a b. R (entry a).0 (entry b).0 ≡ Less) None xs → T (is_sorted R (map entry xs))
  rows_sorted [] h = tt
  rows_sorted (x ∷ xs) h =
      let rest : T (below_all R (entry x).0 (map entry xs)) × T (is_sorted R (map entry xs)) = above_last x xs h.1 in
      and_holds (below_all R (entry x).0 (map entry xs)) (is_sorted R (map entry xs)) rest.0 rest.1

-- keys that were read stand above the one before them
abbrev pub ReadAbove : {K : Type 0} → (K → K → Ordering) → (Option K → Format K) → Type 0
ReadAbove {K} R key = (l k : K) (r s : Reading) → (key (Some l)).read r ≡ Ok (k, s) → R l k ≡ Less

pub record BlobRead (test : List ℕ → Bool) (r : Reading) (bytes : List ℕ) (s : Reading) : Type 0 where
  pub count : ℕ
  pub mid : Reading
  pub length : natural_at r ≡ Ok (count, mid)
  pub body : bytes_at count mid ≡ Ok (bytes, s)
  pub passes : test bytes ≡ true

pub blob_read : (test : List ℕ → Bool) (r : Reading) (bytes : List ℕ) (s : Reading) → (blob_where test).read r ≡ Ok (bytes, s) → BlobRead test r bytes s
blob_read test r bytes s e =
    let p : (p : (ℕ × List ℕ) × Reading) × ((both (natural_where any) (λ n. bytes_where n test)).read r ≡ Ok p) × ((let q : Result (List ℕ × Reading) ℕ = Ok (p.0.1, p.1) in q) ≡ Ok (bytes, s)) =
    chain_ok ((both (natural_where any) (λ n. bytes_where n test)).read r) (λ p. Ok (p.0.1, p.1)) (bytes, s) e in
    let n : (n : ℕ × Reading) × ((natural_where any).read r ≡ Ok n) × (((bytes_where n.0 test).read n.1 >>= λ y. Ok ((n.0, y.0), y.1)) ≡ Ok p.0) =
    chain_ok ((natural_where any).read r) (λ n. (bytes_where n.0 test).read n.1 >>= λ y. Ok ((n.0, y.0), y.1)) p.0 p.1 in
    let y : (y : List ℕ × Reading) × ((bytes_where n.0.0 test).read n.0.1 ≡ Ok y) × ((let q : Result ((ℕ × List ℕ) × Reading) ℕ = Ok ((n.0.0, y.0), y.1) in q) ≡ Ok p.0) =
    chain_ok ((bytes_where n.0.0 test).read n.0.1) (λ y. Ok ((n.0.0, y.0), y.1)) p.0 n.2 in
    let body : (bytes_at n.0.0 n.0.1 ≡ Ok (y.0.0, y.0.1)) × (test y.0.0 ≡ true) = passing_ok test n.0.1.place (bytes_at n.0.0 n.0.1) y.0.0 y.0.1 y.1 in
    let first : natural_at r ≡ Ok (n.0.0, n.0.1) = (passing_ok any r.place (natural_at r) n.0.0 n.0.1 n.1).0 in
    let outer : (p.0.0.1 ≡ bytes) × (p.0.1 ≡ s) = ok_parts p.0.0.1 bytes p.0.1 s p.2 in
    let inner : ((n.0.0, y.0.0) ≡ p.0.0) × (y.0.1 ≡ p.0.1) = ok_parts (n.0.0, y.0.0) p.0.0 y.0.1 p.0.1 y.2 in
    let same : y.0.0 ≡ bytes = ap (λ (q : ℕ × List ℕ). q.1) inner.0 ∙ outer.0 in
    let end : y.0.1 ≡ s = inner.1 ∙ outer.1 in
    record {
      count = n.0.0;
      mid = n.0.1;
      length = first;
      body = body.0 ∙ ap (λ (b : List ℕ). Ok (b, y.0.1)) same ∙ ap (λ (t : Reading). Ok (bytes, t)) end;
      passes = ap test (sym same) ∙ body.1;
    }

pub blob_above : ReadAbove (slice_cmp nat_cmp) blob_after
blob_above l k r s e = less_from (slice_cmp nat_cmp l k) ((blob_read (follows (slice_cmp nat_cmp) (Some l)) r k s e).passes)

pub blob_by_above : (digest : List ℕ → List ℕ) → ReadAbove (λ a b. slice_cmp nat_cmp (digest a) (digest b)) (blob_by_after digest)
blob_by_above digest l k r s e =
    less_from (slice_cmp nat_cmp (digest l) (digest k)) ((blob_read (λ bytes. follows (slice_cmp nat_cmp) (Some (digest l)) (digest bytes)) r k s e).passes)

pub number_above : (n : ℕ) → ReadAbove nat_cmp (number_after n)
number_above n l k r s e = less_from (nat_cmp l k) (passing_ok (follows nat_cmp (Some l)) r.place (fixed_at n r) k s e).1

pub hash_and_number_above : ReadAbove hash_and_number_cmp hash_and_number_after
hash_and_number_above l k r s e =
    let h : (h : List ℕ × Reading) × ((bytes_where 32 (is_hash_from (Some l))).read r ≡ Ok h) × (((fixed_where 4 (λ n. follows hash_and_number_cmp (Some l) (h.0, n))).read h.1 >>= λ y. Ok ((h.0, y.0), y.1)) ≡ Ok (k, s)) =
    chain_ok ((bytes_where 32 (is_hash_from (Some l))).read r) (λ h. (fixed_where 4 (λ n. follows hash_and_number_cmp (Some l) (h.0, n))).read h.1 >>= λ y. Ok ((h.0, y.0), y.1)) (k, s) e in
    let n : (n : ℕ × Reading) × ((fixed_where 4 (λ n. follows hash_and_number_cmp (Some l) (h.0.0, n))).read h.0.1 ≡ Ok n) × ((let q : Result ((List ℕ × ℕ) × Reading) ℕ = Ok ((h.0.0, n.0), n.1) in q) ≡ Ok (k, s)) =
    chain_ok ((fixed_where 4 (λ n. follows hash_and_number_cmp (Some l) (h.0.0, n))).read h.0.1) (λ y. Ok ((h.0.0, y.0), y.1)) (k, s) h.2 in
    let parts : ((h.0.0, n.0.0) ≡ k) × (n.0.1 ≡ s) = ok_parts (h.0.0, n.0.0) k n.0.1 s n.2 in
    let passes = (passing_ok (λ n. follows hash_and_number_cmp (Some l) (h.0.0, n)) h.0.1.place (fixed_at 4 h.0.1) n.0.0 n.0.1 n.1).1 in
    subst (λ (q : List ℕ × ℕ). hash_and_number_cmp l q ≡ Less) parts.0 (less_from (hash_and_number_cmp l (h.0.0, n.0.0)) passes)

pub entry_above : {K V : Type 0} (R : K → K → Ordering) (key : Option K → Format K) (value : Format V) → ReadAbove R key → (l x : K × V) (r s : Reading) → (map_entry key value (Some l)).read r ≡ Ok (x, s) → R l.0 x.0 ≡ Less
entry_above {K} {V} R key value above l x r s e =
    let k : (k : K × Reading) × ((key (Some l.0)).read r ≡ Ok k) × ((value.read k.1 >>= λ y. Ok ((k.0, y.0), y.1)) ≡ Ok (x, s)) =
    chain_ok ((key (Some l.0)).read r) (λ k. value.read k.1 >>= λ y. Ok ((k.0, y.0), y.1)) (x, s) e in
    let v : (v : V × Reading) × (value.read k.0.1 ≡ Ok v) × ((let q : Result ((K × V) × Reading) ℕ = Ok ((k.0.0, v.0), v.1) in q) ≡ Ok (x, s)) =
    chain_ok (value.read k.0.1) (λ y. Ok ((k.0.0, y.0), y.1)) (x, s) k.2 in
    let parts : ((k.0.0, v.0.0) ≡ x) × (v.0.1 ≡ s) = ok_parts (k.0.0, v.0.0) x v.0.1 s v.2 in
    subst (λ (q : K × V). R l.0 q.0 ≡ Less) parts.0 (above l.0 k.0.0 r k.0.1 k.1)

-- what stood where a list was read
pub record ListRead {A : Type 0} (test : ℕ → Bool) (g : Option A → Format A) (r : Reading) (xs : List A) (s : Reading) : Type 0 where
  pub count : ℕ
  pub mid : Reading
  pub number : natural_at r ≡ Ok (count, mid)
  pub few : test count ≡ true
  pub items : items_at g count None mid ≡ Ok (xs, s)

pub list_read : {A : Type 0} (test : ℕ → Bool) (g : Option A → Format A) (r : Reading) (xs : List A) (s : Reading) → (list_of test g).read r ≡ Ok (xs, s) → ListRead test g r xs s
list_read {A} test g r xs s e =
    let p : (p : (ℕ × List A) × Reading) × ((both (natural_where test) (times g)).read r ≡ Ok p) × ((let q : Result (List A × Reading) ℕ = Ok (p.0.1, p.1) in q) ≡ Ok (xs, s)) =
    chain_ok ((both (natural_where test) (times g)).read r) (λ p. Ok (p.0.1, p.1)) (xs, s) e in
    let n : (n : ℕ × Reading) × ((natural_where test).read r ≡ Ok n) × ((items_at g n.0 None n.1 >>= λ y. Ok ((n.0, y.0), y.1)) ≡ Ok p.0) =
    chain_ok ((natural_where test).read r) (λ n. items_at g n.0 None n.1 >>= λ y. Ok ((n.0, y.0), y.1)) p.0 p.1 in
    let y : (y : List A × Reading) × (items_at g n.0.0 None n.0.1 ≡ Ok y) × ((let q : Result ((ℕ × List A) × Reading) ℕ = Ok ((n.0.0, y.0), y.1) in q) ≡ Ok p.0) =
    chain_ok (items_at g n.0.0 None n.0.1) (λ y. Ok ((n.0.0, y.0), y.1)) p.0 n.2 in
    let first : (natural_at r ≡ Ok (n.0.0, n.0.1)) × (test n.0.0 ≡ true) = passing_ok test r.place (natural_at r) n.0.0 n.0.1 n.1 in
    let outer : (p.0.0.1 ≡ xs) × (p.0.1 ≡ s) = ok_parts p.0.0.1 xs p.0.1 s p.2 in
    let inner : ((n.0.0, y.0.0) ≡ p.0.0) × (y.0.1 ≡ p.0.1) = ok_parts (n.0.0, y.0.0) p.0.0 y.0.1 p.0.1 y.2 in
    let same : y.0.0 ≡ xs = ap (λ (q : ℕ × List A). q.1) inner.0 ∙ outer.0 in
    record {
      count = n.0.0;
      mid = n.0.1;
      number = first.0;
      few = first.1;
      items = y.1 ∙ ap (λ (ys : List A). Ok (ys, y.0.1)) same ∙ ap (λ (t : Reading). Ok (xs, t)) (inner.1 ∙ outer.1);
    }

pub items_length : {A : Type 0} (g : Option A → Format A) (n : ℕ) (last : Option A) (r : Reading) (xs : List A) (s : Reading) → items_at g n last r ≡ Ok (xs, s) → length xs ≡ n
unfolding items_at
items_length g zero last r xs s e =
    let parts : ([] ≡ xs) × (r ≡ s) = ok_parts [] xs r s e in
    ap length (sym parts.0)
items_length {A} g (suc n) last r xs s e =
    let x : (x : A × Reading) × ((g last).read r ≡ Ok x) × ((items_at g n (Some x.0) x.1 >>= λ y. Ok (x.0 ∷ y.0, y.1)) ≡ Ok (xs, s)) =
    chain_ok ((g last).read r) (λ x. items_at g n (Some x.0) x.1 >>= λ y. Ok (x.0 ∷ y.0, y.1)) (xs, s) e in
    let y : (y : List A × Reading) × (items_at g n (Some x.0.0) x.0.1 ≡ Ok y) × ((let q : Result (List A × Reading) ℕ = Ok (x.0.0 ∷ y.0, y.1) in q) ≡ Ok (xs, s)) =
    chain_ok (items_at g n (Some x.0.0) x.0.1) (λ y. Ok (x.0.0 ∷ y.0, y.1)) (xs, s) x.2 in
    let parts : (x.0.0 ∷ y.0.0 ≡ xs) × (y.0.1 ≡ s) = ok_parts (x.0.0 ∷ y.0.0) xs y.0.1 s y.2 in
    ap length (sym parts.0) ∙ ap suc (items_length g n (Some x.0.0) x.0.1 y.0.0 y.0.1 y.1)

map_same : {A : Type 0} (xs : List A) → map (λ (x : A). x) xs ≡ xs
map_same [] = refl
map_same {A} (x ∷ xs) = ap (λ (ys : List A). x ∷ ys) (map_same xs)

-- what was read is sorted
pub list_sorted : {A K V : Type 0} (R : K → K → Ordering) (total : IsTotalOrder R) (entry : A → K × V) (test : ℕ → Bool) (g : Option A → Format A) → ((l x : A) (r s : Reading) → (g (Some l)).read r ≡ Ok (x, s) → R (entry l).0 (entry x).0 ≡ Less)
    → (r : Reading) (xs : List A) (s : Reading) → (list_of test g).read r ≡ Ok (xs, s) → T (is_sorted R (map entry xs))
list_sorted R total entry test g above r xs s e =
    let l : ListRead test g r xs s = list_read test g r xs s e in
    rows_sorted R total entry xs (read_ascend g (λ a b. R (entry a).0 (entry b).0 ≡ Less) above l.count None l.mid xs s l.items)

pub map_sorted : {K V : Type 0} (R : K → K → Ordering) (total : IsTotalOrder R) (key : Option K → Format K) (value : Format V) → ReadAbove R key → (r : Reading) (es : List (K × V)) (s : Reading) → (map_of key value).read r ≡ Ok (es, s) → T (is_sorted R es)
map_sorted R total key value above r es s e =
    subst (λ xs. T (is_sorted R xs)) (map_same es) (list_sorted R total (λ x. x) any (map_entry key value) (entry_above R key value above) r es s e)

-- an entry above all that a map holds
module _ {K V : Type 0} (R : K → K → Ordering) (total : IsTotalOrder R) where
  pub below_at : (low : K) (es rest : List (K × V)) (k : K) (v : V) → T (below_all R low (es ++ (k, v) ∷ rest)) → R low k ≡ Less
  below_at low [] rest k v h = holds_less (R low k) (left_holds (is_lt (R low k)) (below_all R low rest) h)
  below_at low (e ∷ es) rest k v h = below_at low es rest k v (right_holds (is_lt (R low e.0)) (below_all R low (es ++ (k, v) ∷ rest)) h)

  put_end : (es rest : List (K × V)) (k : K) (v : V) → T (is_sorted R (es ++ (k, v) ∷ rest)) → put R k v es ≡ es ++ (k, v) ∷ []
  put_end [] rest k v h = refl
  put_end (e ∷ es) rest k v h =
      let less : R e.0 k ≡ Less = below_at e.0 es rest k v (left_holds (below_all R e.0 (es ++ (k, v) ∷ rest)) (is_sorted R (es ++ (k, v) ∷ rest)) h) in
      let greater : R k e.0 ≡ Greater = total.antisymm k e.0 ∙ ap ordering_reverse less in
      rw greater (ap (λ (xs : List (K × V)). e ∷ xs) (put_end es rest k v (right_holds (below_all R e.0 (es ++ (k, v) ∷ rest)) (is_sorted R (es ++ (k, v) ∷ rest)) h)))

  pub insert_end : (m : fin.FinMap R V) (rest : List (K × V)) (k : K) (v : V) → T (is_sorted R (fin.entries m ++ (k, v) ∷ rest)) → fin.entries (fin.insert m k v) ≡ fin.entries m ++ (k, v) ∷ []
  insert_end m rest k v h = fin.entries-insert total m k v ∙ put_end (fin.entries m) rest k v h

  pub from_sorted_is : (m : fin.FinMap R V) (es : List (K × V)) → fin.entries m ≡ es → T (is_sorted R es) → m ≡ fin.from_sorted {R = R} es
  from_sorted_is m es e h = fin.same_entries_map m (fin.from_sorted {R = R} es) (e ∙ sym (fin.entries-from_sorted R es h))

  -- each key of a sorted list passes where it stands
  passes_after : (before : Option (K × V)) (front rest : List (K × V)) (k : K) (v : V) → ((low : K × V) → before ≡ Some low → R low.0 k ≡ Less) → T (is_sorted R (front ++ (k, v) ∷ rest)) → follows R (option_map (λ e. e.0) before) k ≡ true
  passes_after None front rest k v low h = refl
  passes_after (Some l) front rest k v low h = ap is_lt (low l refl)

  last_below : (front rest : List (K × V)) (k : K) (v : V) → T (is_sorted R (front ++ (k, v) ∷ rest)) → (low : K × V) → last_item front ≡ Some low → R low.0 k ≡ Less
  unfolding last_item
  last_below [] rest k v h low e = absurd (cc e)
  last_below (x ∷ []) rest k v h low e =
      let same : x ≡ low = cc in
      subst (λ (q : K × V). R q.0 k ≡ Less) same (below_at x.0 [] rest k v (left_holds (below_all R x.0 ((k, v) ∷ rest)) (is_sorted R ((k, v) ∷ rest)) h))
  last_below (x ∷ y ∷ ys) rest k v h low e =
      last_below (y ∷ ys) rest k v (right_holds (below_all R x.0 ((y ∷ ys) ++ (k, v) ∷ rest)) (is_sorted R ((y ∷ ys) ++ (k, v) ∷ rest)) h) low (sym (last_item-cons x y ys) ∙ e)

  pub follows_last : (front rest : List (K × V)) (k : K) (v : V) → T (is_sorted R (front ++ (k, v) ∷ rest)) → follows R (option_map (λ (e : K × V). e.0) (last_item front)) k ≡ true
  follows_last front rest k v h = passes_after (last_item front) front rest k v (last_below front rest k v h) h
