-- The one spelling of a natural.
use Rattle.std.proofs.Common.{◌≡◌, ℕ, zero, suc, ◌+◌, ◌-◌, ◌*◌, ◌/◌, ◌%◌, ◌^◌, ◌<◌, ◌≤◌, Bool, true, false, List, [], ◌∷◌, ◌++◌, length, take, drop, refl, sym, ap, ◌∙◌, lit<, arith, inl, inr, Option, Some, None, nat_lt, if◌then◌else◌, length-append, take-append-drop}
use Rattle.std.proofs.Math.Nat.{pow-le-pow_right, mul-le-mul_right}
use Rattle.std.proofs.lemmas.List.{take_at, drop_at, length-take-le}
use Rattle.std.proofs.lemmas.Nat.{pow-add, pow_pos, shr_high, mod_low, div_below, mod_below, div-add-mod'}
use Rattle.std.proofs.lemmas.Bool.{cases_lt, le-ltb, lt-ltb, ltb-false}
use Rattle.std.proofs.lemmas.Option.{some_pair_parts}
use Rattle.std.proofs.lemmas.Bool.Decides.{nat_tests}
use Rattle.byte_numbers.specs.Numbers.{little_endian, little_number, AreBytes}
use Rattle.jam_codec.specs.Spelling.{tail_length, prefix_of, natural_with, natural}
use Rattle.jam_codec.specs.Reading.{Reading, Takes, tail_after, least_with, joined, natural_after, natural_of}
use Rattle.byte_numbers.specs.NumberLaws.{AreBytes-tail, AreBytes-take, little_number-little_endian, little_endian-little_number, length-little_endian, little_number-below}

-- l bytes after the first hold x, and fewer do not
pub record Least (l x : ℕ) : Type 0 where
  pub most : l ≤ 8
  pub least : least_with l ≤ x
  pub below : x < 2 ^ (7 - l + 8 * l)

least_with-positive : (l : ℕ) → 0 < l → least_with l ≡ 2 ^ (7 * l)
least_with-positive l h = grind (arith, nat_tests)

pub tail_length-Least : (x : ℕ) → x < 2 ^ 64 → Least (tail_length x) x
tail_length-Least x h = record { most = grind (arith, nat_tests); least = grind (arith, nat_tests); below = grind (arith, nat_tests) }

Least-le : (l m x : ℕ) → Least l x → Least m x → m ≤ l
Least-le l m x p q = elim (cases_lt l m) [
  | inl less ↦
      let grown : 2 ^ (7 - l + 8 * l) ≤ 2 ^ (7 * m) = pow-le-pow_right (lit< tt) (omega (arith, q.most)) in
      absurd (omega (arith, least_with-positive m (omega arith), p.below, q.least))
  | inr more ↦ more
]

pub tail_length-is : (l x : ℕ) → x < 2 ^ 64 → Least l x → tail_length x ≡ l
tail_length-is l x h p =
    omega (arith, Least-le l (tail_length x) x p (tail_length-Least x h), Least-le (tail_length x) l x (tail_length-Least x h) p)

-- by the range of a natural
least_with-next : (l : ℕ) → least_with (l + 1) ≡ 2 ^ (7 * l + 7)
least_with-next l =
    let some : nat_lt 0 (l + 1) ≡ true = lt-ltb 0 (l + 1) (omega arith) in
    let power : 7 * (l + 1) ≡ 7 * l + 7 = omega arith in
    rw (some, power) refl

pub tail_length-next : (l x : ℕ) → x < 2 ^ 64 → l < 8 → least_with l ≤ x → x < least_with (l + 1) → tail_length x ≡ l
tail_length-next l x h few least next =
    let power : 7 - l + 8 * l ≡ 7 * l + 7 = omega arith in
    let same : 2 ^ (7 - l + 8 * l) ≡ 2 ^ (7 * l + 7) = ap (λ (k : ℕ). 2 ^ k) power in
    tail_length-is l x h (record { most = omega arith; least = least; below = omega (arith, least_with-next l) })

short-least : (l x : ℕ) → 2 ^ (7 * l) ≤ x → least_with l ≤ x
short-least zero x h = omega arith
short-least (suc l) x h = omega (arith, least_with-positive (suc l) (omega arith))

pub natural-short : (l x : ℕ) → l < 8 → 2 ^ (7 * l) ≤ x → x < 2 ^ (7 * (l + 1)) → natural x ≡ (2 ^ 8 - 2 ^ (8 - l) + x / 2 ^ (8 * l)) ∷ little_endian l (x % 2 ^ (8 * l))
unfolding natural
natural-short l x few least below =
    let power : 7 * (l + 1) ≡ 7 * l + 7 = omega arith in
    let under : x < 2 ^ (7 * l + 7) = rw power at below in
    let bound : 2 ^ (7 * l + 7) ≤ 2 ^ 64 = pow-le-pow_right {n = 2} (lit< tt) {i = 7 * l + 7} {j = 64} (omega arith) in
    ap (λ (k : ℕ). natural_with k x) (tail_length-next l x (omega arith) few (short-least l x least) (omega (arith, least_with-next l)))

pub natural-long : (x : ℕ) → 2 ^ 56 ≤ x → x < 2 ^ 64 → natural x ≡ 255 ∷ little_endian 8 x
unfolding natural
natural-long x least below =
    let high : 2 ^ 8 - 2 ^ (8 - 8) + x / 2 ^ (8 * 8) ≡ 255 = omega arith in
    let low : x % 2 ^ (8 * 8) ≡ x = omega arith in
    ap (λ (k : ℕ). natural_with k x) (tail_length-is 8 x below (record { most = omega arith; least = least; below = below }))
    ∙ (λ i. high i ∷ little_endian 8 (low i))

pub natural-zero : natural 0 ≡ 0 ∷ []
unfolding natural little_endian
natural-zero = refl

-- a first byte tells how many follow, and holds the rest of the number
pub record First (first l : ℕ) : Type 0 where
  pub most : l ≤ 8
  pub least : prefix_of l ≤ first
  pub high : first - prefix_of l < 2 ^ (7 - l)

pub tail_after-First : (first : ℕ) → first < 256 → First first (tail_after first)
tail_after-First first h = record { most = grind (arith, nat_tests); least = grind (arith, nat_tests); high = grind (arith, nat_tests) }

tail_after-is : (l high : ℕ) → l ≤ 8 → high < 2 ^ (7 - l) → tail_after (prefix_of l + high) ≡ l
tail_after-is zero high most h = grind (arith, nat_tests)
tail_after-is (suc zero) high most h = grind (arith, nat_tests)
tail_after-is (suc (suc zero)) high most h = grind (arith, nat_tests)
tail_after-is (suc (suc (suc zero))) high most h = grind (arith, nat_tests)
tail_after-is (suc (suc (suc (suc zero)))) high most h = grind (arith, nat_tests)
tail_after-is (suc (suc (suc (suc (suc zero))))) high most h = grind (arith, nat_tests)
tail_after-is (suc (suc (suc (suc (suc (suc zero)))))) high most h = grind (arith, nat_tests)
tail_after-is (suc (suc (suc (suc (suc (suc (suc zero))))))) high most h = grind (arith, nat_tests)
tail_after-is (suc (suc (suc (suc (suc (suc (suc (suc zero)))))))) high most h = grind (arith, nat_tests)
tail_after-is (suc (suc (suc (suc (suc (suc (suc (suc (suc l))))))))) high most h = absurd (omega arith)

-- the first byte and the ones after it, where a natural is spelled
natural-First : (x : ℕ) → x < 2 ^ 64 → x / 2 ^ (8 * tail_length x) < 2 ^ (7 - tail_length x)
natural-First x h =
    let p : Least (tail_length x) x = tail_length-Least x h in
    div_below x (2 ^ (8 * tail_length x)) (2 ^ (7 - tail_length x)) (pow_pos (8 * tail_length x)) (rw pow-add at p.below)

natural_after-with : (l high low x : ℕ) (tail : List ℕ) → low < 2 ^ (8 * l) → x ≡ high * 2 ^ (8 * l) + low → least_with l ≤ x → natural_after (prefix_of l + high) l (little_endian l low ++ tail) ≡ Some (x, tail)
natural_after-with l high low x tail below value least =
    let size : length (little_endian l low) ≡ l = length-little_endian l low in
    let long : nat_lt (length (little_endian l low ++ tail)) l ≡ false = le-ltb (length (little_endian l low ++ tail)) l (omega (arith, length-append (little_endian l low) tail)) in
    let same : prefix_of l + high - prefix_of l ≡ high = omega arith in
    rw (long, take_at (little_endian l low) tail l size, drop_at (little_endian l low) tail l size, little_number-little_endian l low below, same, ← value, le-ltb x (least_with l) least)

-- what is spelled is read
pub natural_of-natural : (x : ℕ) (tail : List ℕ) → x < 2 ^ 64 → natural_of (natural x ++ tail) ≡ Some (x, tail)
unfolding natural natural_of
natural_of-natural x tail h =
    let p : Least (tail_length x) x = tail_length-Least x h in
    let l : tail_after (prefix_of (tail_length x) + x / 2 ^ (8 * tail_length x)) ≡ tail_length x = tail_after-is (tail_length x) (x / 2 ^ (8 * tail_length x)) p.most (natural-First x h) in
    ap (λ (k : ℕ). natural_after (prefix_of (tail_length x) + x / 2 ^ (8 * tail_length x)) k (little_endian (tail_length x) (x % 2 ^ (8 * tail_length x)) ++ tail)) l
    ∙ natural_after-with (tail_length x) (x / 2 ^ (8 * tail_length x)) (x % 2 ^ (8 * tail_length x)) x tail
    (mod_below x (2 ^ (8 * tail_length x)) (pow_pos (8 * tail_length x))) (sym (div-add-mod' x (2 ^ (8 * tail_length x)))) p.least

-- what is read is spelled so
record After (first l : ℕ) (tail : List ℕ) (x : ℕ) (rest : List ℕ) : Type 0 where
  long : l ≤ length tail
  least : least_with l ≤ x
  value : x ≡ joined first l tail
  left : rest ≡ drop l tail

passed : {A : Type 0} → (b : Bool) (o : Option A) (y : A) → (if b then None else o) ≡ Some y → (b ≡ false) × (o ≡ Some y)
passed true o y e = absurd (cc e)
passed false o y e = (refl, e)

abbrev joined_read : ℕ → ℕ → List ℕ → Option (ℕ × List ℕ)
joined_read first l tail = Some (joined first l tail, drop l tail)

abbrev least_read : ℕ → ℕ → List ℕ → Option (ℕ × List ℕ)
least_read first l tail = if nat_lt (joined first l tail) (least_with l) then None else joined_read first l tail

natural_after-After : (first l : ℕ) (tail : List ℕ) (x : ℕ) (rest : List ℕ) → natural_after first l tail ≡ Some (x, rest) → After first l tail x rest
natural_after-After first l tail x rest e =
    let long : (nat_lt (length tail) l ≡ false) × (least_read first l tail ≡ Some (x, rest)) =
    passed (nat_lt (length tail) l) (least_read first l tail) (x, rest) e in
    let least : (nat_lt (joined first l tail) (least_with l) ≡ false) × (joined_read first l tail ≡ Some (x, rest)) =
    passed (nat_lt (joined first l tail) (least_with l)) (joined_read first l tail) (x, rest) long.1 in
    let same : (joined first l tail ≡ x) × (drop l tail ≡ rest) = some_pair_parts (joined first l tail) x (drop l tail) rest least.1 in
    record {
      long = ltb-false (length tail) l long.0;
      least = omega (arith, ltb-false (joined first l tail) (least_with l) least.0, same.0);
      value = sym same.0;
      left = sym same.1;
    }

natural-joined : (first l low x : ℕ) → First first l → low < 2 ^ (8 * l) → least_with l ≤ x → x ≡ (first - prefix_of l) * 2 ^ (8 * l) + low → (x < 2 ^ 64) × (natural x ≡ first ∷ little_endian l low)
unfolding natural
natural-joined first l low x f below least value =
    let most : l ≤ 8 = f.most in
    let step : (first - prefix_of l + 1) * 2 ^ (8 * l) ≤ 2 ^ (7 - l) * 2 ^ (8 * l) = mul-le-mul_right (2 ^ (8 * l)) (omega (arith, f.high)) in
    let under : x < 2 ^ (7 - l + 8 * l) = rw pow-add (omega arith) in
    let bound : 2 ^ (7 - l + 8 * l) ≤ 2 ^ 64 = pow-le-pow_right {n = 2} (lit< tt) {i = 7 - l + 8 * l} {j = 64} (omega arith) in
    let fits : x < 2 ^ 64 = omega arith in
    let same : tail_length x ≡ l = tail_length-is l x fits (record { most = most; least = least; below = under }) in
    let high : x / 2 ^ (8 * l) ≡ first - prefix_of l = rw value (shr_high (first - prefix_of l) (8 * l) low below) in
    let rest : x % 2 ^ (8 * l) ≡ low = rw value (mod_low (first - prefix_of l) (8 * l) low below) in
    let whole : prefix_of l + (first - prefix_of l) ≡ first = omega (arith, f.least) in
    (fits, ap (λ (k : ℕ). natural_with k x) same ∙ rw (high, rest, whole) refl)

pub natural_of-found : (bytes : List ℕ) (x : ℕ) (rest : List ℕ) → AreBytes bytes → natural_of bytes ≡ Some (x, rest) → (x < 2 ^ 64) × (bytes ≡ natural x ++ rest)
unfolding natural_of
natural_of-found [] x rest b e = absurd (cc e)
natural_of-found (first ∷ tail) x rest b e =
    let a : After first (tail_after first) tail x rest = natural_after-After first (tail_after first) tail x rest e in
    let f : First first (tail_after first) = tail_after-First first (b 0) in
    let front : AreBytes (take (tail_after first) tail) = AreBytes-take (tail_after first) tail (AreBytes-tail first tail b) in
    let size : length (take (tail_after first) tail) ≡ tail_after first = length-take-le (tail_after first) tail a.long in
    let low : little_number (take (tail_after first) tail) < 2 ^ (8 * tail_after first) = rw size at (little_number-below (take (tail_after first) tail) front) in
    let spelled : little_endian (tail_after first) (little_number (take (tail_after first) tail)) ≡ take (tail_after first) tail =
    ap (λ (k : ℕ). little_endian k (little_number (take (tail_after first) tail))) (sym size) ∙ little_endian-little_number (take (tail_after first) tail) front in
    let n : (x < 2 ^ 64) × (natural x ≡ first ∷ little_endian (tail_after first) (little_number (take (tail_after first) tail))) =
    natural-joined first (tail_after first) (little_number (take (tail_after first) tail)) x f low a.least a.value in
    (n.0, ap (λ (t : List ℕ). first ∷ t) (sym (take-append-drop (tail_after first) tail)) ∙ rw (n.1, spelled, a.left) refl)

pub natural-Takes : (r : Reading) (x : ℕ) (rest : List ℕ) → AreBytes r.rest → natural_of r.rest ≡ Some (x, rest) → (x < 2 ^ 64) × Takes r (natural x) (record { place = r.place + (length r.rest - length rest); rest = rest })
natural-Takes r x rest b e =
    let found : (x < 2 ^ 64) × (r.rest ≡ natural x ++ rest) = natural_of-found r.rest x rest b e in
    (found.0, record { place = omega (arith, ap length found.1, length-append (natural x) rest); rest = found.1 })

pub natural-none : (bytes : List ℕ) (x : ℕ) (tail : List ℕ) → natural_of bytes ≡ None → x < 2 ^ 64 → bytes ≡ natural x ++ tail → ⊥
natural-none bytes x tail none h e = cc (sym none ∙ ap natural_of e ∙ natural_of-natural x tail h)
