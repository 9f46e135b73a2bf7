-- Numbers and the bytes that spell them.
use Rattle.std.proofs.Common.{◌≡◌, ℕ, zero, suc, ◌+◌, ◌-◌, ◌*◌, ◌/◌, ◌%◌, ◌^◌, ◌<◌, ◌≤◌, List, [], ◌∷◌, ◌++◌, length, take, drop, get_or, refl, sym, ap, ◌∙◌, subst, arith, Some, None, slice_get, inl, inr, zero-mul, le_refl, lit<, drop-cons}
use Rattle.std.specs.Int.{byte_at, bytes_low_first, to_le_bytes, w64}
use Rattle.std.proofs.Math.Nat.{div-div-eq-div-mul, div-one, pow-suc, pow-succ', zero-mod}
use Rattle.std.proofs.Math.Arith.{mod-mul}
use Rattle.std.proofs.Math.ListN.{drop_of_length-le}
use Rattle.std.proofs.Math.Seq.{take-nil}
use Rattle.std.proofs.lemmas.List.{get_or-drop, get_or_past, drop_at, drop-drop, take-take, drop-take, take_all}
use Rattle.std.proofs.lemmas.Nat.{pow-add}
use Rattle.std.proofs.lemmas.Bool.{cases_lt}
use Rattle.byteorder.specs.Endian.{little_from}
use Rattle.byte_numbers.specs.Numbers.{AreBytes, little_number, little_endian, number_at, numbers}

-- ---- Bytes

-- parts of bytes are bytes
pub AreBytes-tail : (first : ℕ) (bytes : List ℕ) → AreBytes (first ∷ bytes) → AreBytes bytes
AreBytes-tail first bytes b k = b (suc k)

pub AreBytes-drop : (n : ℕ) (bytes : List ℕ) → AreBytes bytes → AreBytes (drop n bytes)
AreBytes-drop n bytes b k = rw get_or-drop (b (n + k))

pub AreBytes-take : (n : ℕ) (bytes : List ℕ) → AreBytes bytes → AreBytes (take n bytes)
AreBytes-take zero bytes b k = omega arith
AreBytes-take (suc n) [] b k = omega arith
AreBytes-take (suc n) (first ∷ bytes) b zero = b 0
AreBytes-take (suc n) (first ∷ bytes) b (suc k) = AreBytes-take n bytes (AreBytes-tail first bytes b) k

pub AreBytes-rest : (front rest : List ℕ) → AreBytes (front ++ rest) → AreBytes rest
AreBytes-rest front rest b = subst AreBytes (drop_at front rest (length front) refl) (AreBytes-drop (length front) (front ++ rest) b)

pub AreBytes-append : (front rest : List ℕ) → AreBytes front → AreBytes rest → AreBytes (front ++ rest)
AreBytes-append [] rest b c k = c k
AreBytes-append (first ∷ front) rest b c zero = b 0
AreBytes-append (first ∷ front) rest b c (suc k) = AreBytes-append front rest (AreBytes-tail first front b) c k

pub AreBytes-little_endian : (n x : ℕ) → AreBytes (little_endian n x)
unfolding little_endian
AreBytes-little_endian zero x k = omega arith
AreBytes-little_endian (suc n) x zero = omega arith
AreBytes-little_endian (suc n) x (suc k) = AreBytes-little_endian n (x / 256) k

-- ---- Powers

-- one byte more
pub pow_byte : (n : ℕ) → 2 ^ (8 * suc n) ≡ 256 * 2 ^ (8 * n)
pow_byte n = let more : 8 * suc n ≡ 8 + 8 * n = omega arith in rw (more, pow-add 2 8 (8 * n))

pub pow_256 : (n : ℕ) → 256 ^ n ≡ 2 ^ (8 * n)
pow_256 zero = refl
pow_256 (suc n) = pow-succ' 256 n ∙ ap (λ (k : ℕ). 256 * k) (pow_256 n) ∙ sym (pow_byte n)

above_zero : (n : ℕ) → 0 < 256 ^ n
above_zero zero = lit< tt
above_zero (suc n) = omega (arith, above_zero n, pow-suc 256 n)

pub one_byte_more : (n b x : ℕ) → b < 256 → x < 256 ^ n → b + 256 * x < 256 ^ suc n
one_byte_more n b x h k = omega (arith, pow-succ' 256 n)

-- ---- A number and its bytes

pub little_number-below : (bytes : List ℕ) → AreBytes bytes → little_number bytes < 2 ^ (8 * length bytes)
little_number-below [] b = omega arith
little_number-below (first ∷ bytes) b =
    omega (arith, pow_byte (length bytes), b 0, little_number-below bytes (AreBytes-tail first bytes b))

pub length-little_endian : (n x : ℕ) → length (little_endian n x) ≡ n
unfolding little_endian
length-little_endian zero x = refl
length-little_endian (suc n) x = ap suc (length-little_endian n (x / 256))

-- spelled and read again, both ways
pub little_number-little_endian : (n x : ℕ) → x < 2 ^ (8 * n) → little_number (little_endian n x) ≡ x
unfolding little_endian
little_number-little_endian zero x h = omega arith
little_number-little_endian (suc n) x h =
    let high : x / 256 < 2 ^ (8 * n) = omega (arith, pow_byte n) in
    omega (arith, little_number-little_endian n (x / 256) high)

pub little_endian-little_number : (bytes : List ℕ) → AreBytes bytes → little_endian (length bytes) (little_number bytes) ≡ bytes
unfolding little_endian
little_endian-little_number [] b = refl
little_endian-little_number (first ∷ bytes) b =
    let low : (first + 256 * little_number bytes) % 256 ≡ first = omega (arith, b 0) in
    let high : (first + 256 * little_number bytes) / 256 ≡ little_number bytes = omega (arith, b 0) in
    rw (low, high, little_endian-little_number bytes (AreBytes-tail first bytes b))

pub little_number-append : (low high : List ℕ) → little_number (low ++ high) ≡ little_number low + 2 ^ (8 * length low) * little_number high
little_number-append [] high = omega arith
little_number-append (first ∷ low) high =
    rw (pow_byte (length low), little_number-append low high) (omega arith)

pub take-little_endian : (n k x : ℕ) → n ≤ k → take n (little_endian k x) ≡ little_endian n x
unfolding little_endian
take-little_endian zero k x h = refl
take-little_endian (suc n) zero x h = absurd (omega arith)
take-little_endian (suc n) (suc k) x h = ap (λ (t : List ℕ). (x % 256) ∷ t) (take-little_endian n k (x / 256) (omega arith))

-- no bytes spell 0
pub little_endian-none : (bytes : List ℕ) → length bytes ≡ 0 → little_endian (length bytes) 0 ≡ bytes
unfolding little_endian
little_endian-none [] e = refl
little_endian-none (first ∷ bytes) e = absurd (omega arith)

-- the first byte of a number, and the others
pub little_endian-first : (m low high : ℕ) → low < 256 → little_endian (suc m) (low + 256 * high) ≡ low ∷ little_endian m high
unfolding little_endian
little_endian-first m low high h =
    let first : (low + 256 * high) % 256 ≡ low = omega arith in
    let rest : (low + 256 * high) / 256 ≡ high = omega arith in
    rw (first, rest) refl

-- ---- What std and byteorder say of the same numbers

-- the number by the places of its bytes
pub little_from-at : (n i : ℕ) (bytes : List ℕ) → i + n ≤ length bytes → little_from i n bytes ≡ number_at bytes i n
little_from-at zero i bytes h = refl
little_from-at (suc n) i bytes h =
    let rest : little_from (suc i) n bytes ≡ little_number (take n (drop (suc i) bytes)) = little_from-at n (suc i) bytes (omega arith) in
    let front : drop i bytes ≡ get_or bytes i 0 ∷ drop (suc i) bytes = drop-cons bytes i 0 (omega arith) in
    rw (front, rest) refl

pub little_from-front : (n : ℕ) (bytes : List ℕ) → n ≤ length bytes → little_from 0 n bytes ≡ little_number (take n bytes)
little_from-front n bytes h = little_from-at n 0 bytes (omega arith)

pub little_from-whole : (bytes : List ℕ) → little_from 0 (length bytes) bytes ≡ little_number bytes
little_from-whole bytes =
    little_from-front (length bytes) bytes (le_refl (length bytes)) ∙ ap little_number (take_all (length bytes) bytes (le_refl (length bytes)))

-- the bytes of a number, from one of them on
byte_at-power : (j x : ℕ) → byte_at j x ≡ x / 256 ^ j % 256
byte_at-power zero x = ap (λ (k : ℕ). k % 256) (sym (div-one x))
byte_at-power (suc j) x = refl

bytes-from : (k j x : ℕ) → bytes_low_first j k x ≡ little_endian k (x / 256 ^ j)
unfolding little_endian
bytes-from zero j x = refl
bytes-from (suc k) j x =
    let next : x / 256 ^ suc j ≡ x / 256 ^ j / 256 = ap (λ (p : ℕ). x / p) (pow-suc 256 j) ∙ sym (div-div-eq-div-mul x (256 ^ j) 256) in
    rw (byte_at-power j x, bytes-from k (suc j) x, next) refl

pub bytes-little_endian : (k x : ℕ) → bytes_low_first 0 k x ≡ little_endian k x
bytes-little_endian k x = bytes-from k 0 x ∙ ap (little_endian k) (div-one x)

-- the first n of the eight bytes of a number
pub low_bytes : (n x : ℕ) → n ≤ 8 → take n (to_le_bytes w64 x) ≡ little_endian n x
low_bytes n x h = ap (take n) (bytes-little_endian 8 x) ∙ take-little_endian n 8 x h

-- ---- Numbers at a place

-- the first byte, and those after it
pub number_at-step : (bytes : List ℕ) (i j n : ℕ) → j ≡ i + 1 → number_at bytes i (suc n) ≡ get_or bytes i 0 + 256 * number_at bytes j n
number_at-step bytes i j n after = elim (cases_lt i (length bytes)) [
  | inl within ↦
      let suc_place : suc i ≡ j = omega arith in
      let front : drop i bytes ≡ get_or bytes i 0 ∷ drop j bytes = drop-cons bytes i 0 within ∙ ap (λ (k : ℕ). get_or bytes i 0 ∷ drop k bytes) suc_place in
      ap (λ (l : List ℕ). little_number (take (suc n) l)) front
  | inr past ↦
      let here : drop i bytes ≡ [] = drop_of_length-le bytes past in
      let next : drop j bytes ≡ [] = drop_of_length-le bytes (omega arith) in
      let byte : get_or bytes i 0 ≡ 0 = get_or_past bytes i 0 past in
      let none : take {A = ℕ} n [] ≡ [] = take-nil n in
      rw (here, next, byte, none) refl
]

digit : (b rest n : ℕ) → b < 256 → (b + 256 * rest) % 256 ^ suc n ≡ b + 256 * (rest % 256 ^ n)
digit b rest n h =
    let base : 0 < 256 ^ n = above_zero n in
    let next : 256 ^ suc n ≡ 256 ^ n * 256 = pow-suc 256 n in
    let low : (b + 256 * rest) % 256 ≡ b = omega arith in
    let high : (b + 256 * rest) / 256 ≡ rest = omega arith in
    let split : (b + 256 * rest) % (256 ^ n * 256) ≡ (b + 256 * rest) / 256 % 256 ^ n * 256 + (b + 256 * rest) % 256 = mod-mul (b + 256 * rest) base (omega arith) in
    let parts : (b + 256 * rest) / 256 % 256 ^ n ≡ rest % 256 ^ n = ap (λ (k : ℕ). k % 256 ^ n) high in
    omega (arith, split, low, parts, ap (λ (k : ℕ). (b + 256 * rest) % k) next)

-- the first few bytes of more
pub few_of-front : (n m : ℕ) (bytes : List ℕ) → n ≤ m → AreBytes bytes → little_number (take n bytes) ≡ little_number (take m bytes) % 256 ^ n
few_of-front zero m bytes less are = omega arith
few_of-front (suc n) zero bytes less are = absurd (omega arith)
few_of-front (suc n) (suc m) [] less are = sym (zero-mod (256 ^ suc n))
few_of-front (suc n) (suc m) (b ∷ bs) less are =
    ap (λ (k : ℕ). b + 256 * k) (few_of-front n m bs (omega arith) (λ k. are (suc k)))
    ∙ sym (digit b (little_number (take m bs)) n (are zero))

pub number_at-few : (many : ℕ) (bytes : List ℕ) (place n : ℕ) → n ≤ many → AreBytes bytes → number_at bytes place many % 2 ^ (8 * n) ≡ number_at bytes place n
number_at-few many bytes place n less are =
    ap (λ (k : ℕ). number_at bytes place many % k) (sym (pow_256 n))
    ∙ sym (few_of-front n many (drop place bytes) less (AreBytes-drop place bytes are))

-- the bytes from the k-th on
pub number_at-later : (bytes : List ℕ) (place k m : ℕ) → AreBytes bytes → number_at bytes place (k + m) / 2 ^ (8 * k) ≡ number_at bytes (place + k) m
number_at-later bytes place zero m are =
    let sum : 0 + m ≡ m = omega arith in
    let same : number_at bytes place (0 + m) ≡ number_at bytes place m = ap (number_at bytes place) sum in
    let whole : number_at bytes place (0 + m) / 1 ≡ number_at bytes place (0 + m) = omega arith in
    whole ∙ same ∙ ap (λ (i : ℕ). number_at bytes i m) (omega arith)
number_at-later bytes place (suc k) m are =
    let sum : suc k + m ≡ suc (k + m) = omega arith in
    let first : number_at bytes place (suc k + m) / 2 ^ 8 ≡ number_at bytes (place + 1) (k + m) =
    omega (arith, ap (number_at bytes place) sum, number_at-step bytes place (place + 1) (k + m) (omega arith), are place) in
    ap (λ (i : ℕ). number_at bytes place (suc k + m) / 2 ^ i) (omega arith)
    ∙ ap (λ (i : ℕ). number_at bytes place (suc k + m) / i) (pow-add 2 8 (8 * k))
    ∙ sym (div-div-eq-div-mul (number_at bytes place (suc k + m)) (2 ^ 8) (2 ^ (8 * k)))
    ∙ ap (λ (i : ℕ). i / 2 ^ (8 * k)) first
    ∙ number_at-later bytes (place + 1) k m are
    ∙ ap (λ (i : ℕ). number_at bytes i m) (omega arith)

-- ---- Numbers of one width, one after another

pub length-numbers : (width n : ℕ) (bytes : List ℕ) → length (numbers width n bytes) ≡ n
unfolding numbers
length-numbers width zero bytes = refl
length-numbers width (suc n) bytes = ap suc (length-numbers width n (drop width bytes))

pub numbers-get : (width n k : ℕ) (bytes : List ℕ) → k < n → slice_get (numbers width n bytes) k ≡ Some (number_at bytes (k * width) width)
unfolding numbers
numbers-get width zero k bytes h = absurd (omega arith)
numbers-get width (suc n) zero bytes h = rw zero-mul refl
numbers-get width (suc n) (suc k) bytes h =
    let less : k < n = omega arith in
    let next : width + k * width ≡ suc k * width = omega arith in
    numbers-get width n k (drop width bytes) less
    ∙ ap (λ (tail : List ℕ). Some (little_number (take width tail))) (drop-drop (k * width) width bytes ∙ ap (λ (p : ℕ). drop p bytes) next)

pub numbers-past : (width n k : ℕ) (bytes : List ℕ) → n ≤ k → slice_get (numbers width n bytes) k ≡ None
unfolding numbers
numbers-past width zero k bytes h = refl
numbers-past width (suc n) zero bytes h = absurd (omega arith)
numbers-past width (suc n) (suc k) bytes h = numbers-past width n k (drop width bytes) (omega arith)

-- they stand in the first bytes alone
pub numbers-take : (width n size : ℕ) (bytes : List ℕ) → n * width ≤ size → numbers width n (take size bytes) ≡ numbers width n bytes
unfolding numbers
numbers-take width zero size bytes h = refl
numbers-take width (suc n) size bytes h =
    let more : n * width ≤ size - width = omega arith in
    let here : width ≤ size = omega arith in
    let split : size ≡ width + (size - width) = omega arith in
    let rest : drop width (take size bytes) ≡ take (size - width) (drop width bytes) =
    ap (λ (k : ℕ). drop width (take k bytes)) split ∙ drop-take width (size - width) bytes in
    rw (take-take width size bytes here, rest, numbers-take width n (size - width) (drop width bytes) more)
