-- The mask's bits in four of its bytes.
use Rattle.std.proofs.Common.{◌≡◌, ℕ, zero, suc, ◌+◌, ◌-◌, ◌*◌, ◌/◌, ◌%◌, ◌^◌, ◌<◌, ◌≤◌, true, false, Bool, subst, lit<, List, length, take, drop, get_or, arith, refl, ap, sym, ◌∙◌, inl, inr, length-drop}
use Rattle.std.specs.Prelude.{◌==◌, bit_or}
use Rattle.std.specs.Int.{w32, bit_at, trailing_zeros, leading_zeros, ◌∣◌}
use Rattle.std.proofs.Math.Nat.{div-div-eq-div-mul, pow-succ', pow-le-pow_right, one-le-pow, div-eq_of_lt, div-eq_of_lt-le, dvd-mul_right, mod-mod_of_dvd}
use Rattle.std.proofs.lemmas.Bool.{cases_lt}
use Rattle.std.proofs.lemmas.List.{get_or-drop, get_or-take, length-take-le}
use Rattle.std.proofs.lemmas.Nat.{shr-shr, or_lt, le_or_r, leading_top, field_of}
use Rattle.std.proofs.lemmas.Nat.Bits.{bit_at-trailing_zeros, bit_at_lowest, bit_at_or, bit_at-pow_same, bit_at-pow_other}
use Rattle.byte_numbers.specs.Numbers.{little_number, AreBytes}
use Rattle.jam_codec.specs.Spelling.{binary_digits}
use Rattle.byte_numbers.specs.NumberLaws.{AreBytes-take, AreBytes-drop}
use Rattle.jam_codec.specs.BitLaws.{binary_digits-of_bytes}
use Rattle.blob_decode.specs.Program.{mask_bit, skip}
use Rattle.blob_decode.specs.Kept.{program_of, AreParts, AreMarks, FirstSet, LastSet}
use Rattle.blob_decode.proofs.Starts.{gap-is}
use Rattle.blob_decode.proofs.KeptLaws.{mask_bit-kept, mask_bit-past}

-- the first set bit of the lowest 24, by the zeros below it once the bit above them is set
pub FirstSet-trailing_zeros : (bits : ℕ) → bits < 2 ^ 32 → FirstSet bits (trailing_zeros w32 (bit_or bits (2 ^ 24)))
FirstSet-trailing_zeros bits h =
    let whole : ℕ = bit_or bits (2 ^ 24) in
    let below : bit_or bits (2 ^ 24) < 2 ^ 32 = or_lt 32 bits (2 ^ 24) h (omega arith) in
    let some : 0 < bit_or bits (2 ^ 24) = omega (arith, le_or_r bits (2 ^ 24)) in
    let found : (trailing_zeros w32 whole < 32) × (bit_at whole (trailing_zeros w32 whole) ≡ 1) × ((i : ℕ) → i < trailing_zeros w32 whole → bit_at whole i ≡ 0) = bit_at-trailing_zeros w32 whole some below in
    let low : (i : ℕ) → i < 24 → bit_at whole i ≡ bit_at bits i = λ i less. omega (arith, bit_at_or bits (2 ^ 24) i, bit_at-pow_other 24 i (omega arith)) in
    let top : bit_at whole 24 ≡ 0 → ⊥ = λ none. omega (arith, bit_at_or bits (2 ^ 24) 24, bit_at-pow_same 24) in
    let most : trailing_zeros w32 whole ≤ 24 = elim (cases_lt 24 (trailing_zeros w32 whole)) [
      | inl past ↦ absurd (top (found.2 24 past))
      | inr here ↦ here
    ] in
    record {
      most = most;
      zeros = λ j less. sym (low j (omega arith)) ∙ found.2 j less;
      one = λ less. sym (low (trailing_zeros w32 whole) less) ∙ found.1;
    }

-- a double has no bit set below the place after the lowest set bit of the number
low-clear : (x t u : ℕ) → ((i : ℕ) → bit_at (x * 2) (i + 1) ≡ bit_at x i) → ((i : ℕ) → i < u → bit_at x i ≡ 0) → t < u + 1 → bit_at (x * 2) t ≡ 1 → ⊥
low-clear x zero u up clear under set = omega (arith, set, bit_at_lowest (x * 2))
low-clear x (suc t) u up clear under set =
    let here : bit_at (x * 2) (suc t) ≡ bit_at x t = ap (bit_at (x * 2)) (omega arith) ∙ up t in
    omega (arith, set, here, clear t (omega arith))

-- the zeros below the lowest set bit of a number, and of its double
twice-trailing_zeros : (x : ℕ) → 0 < x → x < 2 ^ 31 → trailing_zeros w32 (x * 2) ≡ trailing_zeros w32 x + 1
twice-trailing_zeros x some below =
    let once : (trailing_zeros w32 x < 32) × (bit_at x (trailing_zeros w32 x) ≡ 1) × ((i : ℕ) → i < trailing_zeros w32 x → bit_at x i ≡ 0) = bit_at-trailing_zeros w32 x some (omega arith) in
    let twice : (trailing_zeros w32 (x * 2) < 32) × (bit_at (x * 2) (trailing_zeros w32 (x * 2)) ≡ 1) × ((i : ℕ) → i < trailing_zeros w32 (x * 2) → bit_at (x * 2) i ≡ 0) = bit_at-trailing_zeros w32 (x * 2) (omega arith) (omega arith) in
    let up : (i : ℕ) → bit_at (x * 2) (i + 1) ≡ bit_at x i = λ i.
    let half : x * 2 / 2 ≡ x = omega arith in
    ap (λ (k : ℕ). x * 2 / k % 2) (ap (λ (k : ℕ). 2 ^ k) (omega arith) ∙ pow-succ' 2 i)
    ∙ ap (λ (k : ℕ). k % 2) (sym (div-div-eq-div-mul (x * 2) 2 (2 ^ i)))
    ∙ ap (λ (k : ℕ). k / 2 ^ i % 2) half in
    elim (cases_lt (trailing_zeros w32 x + 1) (trailing_zeros w32 (x * 2))) [
      | inl less ↦ absurd (omega (arith, twice.2 (trailing_zeros w32 x + 1) less, up (trailing_zeros w32 x), once.1))
      | inr more ↦ elim (cases_lt (trailing_zeros w32 (x * 2)) (trailing_zeros w32 x + 1)) [
        | inl under ↦ absurd (low-clear x (trailing_zeros w32 (x * 2)) (trailing_zeros w32 x) up once.2 under twice.1)
        | inr over ↦ omega arith
      ]
    ]

-- so how far the first set bit but the lowest is
pub FirstSet-ahead : (bits r : ℕ) → bits < 2 ^ 32 → r ≡ trailing_zeros w32 (bit_or (bits / 2) 16777216 * 2 % 4294967296) → (0 < r) × (r ≤ 25) × ((n : ℕ) → n + 1 ≡ r → FirstSet (bits / 2) n)
FirstSet-ahead bits r h is =
    let half : ℕ = bits / 2 in
    let with_end : ℕ = bit_or (bits / 2) 16777216 in
    let below : bit_or (bits / 2) 16777216 < 2 ^ 31 = or_lt 31 (bits / 2) 16777216 (omega arith) (lit< tt) in
    let some : 0 < bit_or (bits / 2) 16777216 = omega (arith, le_or_r (bits / 2) 16777216) in
    let whole : with_end * 2 % 4294967296 ≡ with_end * 2 = omega (arith, below) in
    let ahead : r ≡ trailing_zeros w32 with_end + 1 = is ∙ ap (trailing_zeros w32) whole ∙ twice-trailing_zeros with_end some below in
    let set : FirstSet (bits / 2) (trailing_zeros w32 with_end) = FirstSet-trailing_zeros half (omega arith) in
    (omega (arith, ahead), omega (arith, ahead, set.most), λ n e. let same : n ≡ trailing_zeros w32 with_end = omega (arith, e, ahead) in subst (FirstSet half) (sym same) set)

-- the last set bit, by the zeros above it
pub LastSet-leading_zeros : (bits : ℕ) → 0 < bits → bits < 2 ^ 32 → LastSet bits (31 - leading_zeros w32 bits)
LastSet-leading_zeros bits some below =
    let top = leading_top 32 bits some below in
    let j : ℕ = top.0 in
    let place : 31 - leading_zeros w32 bits ≡ j = omega (arith, top.1) in
    let one : bits / 2 ^ j ≡ 1 = div-eq_of_lt-le {k = 1} (2 ^ j) (omega (arith, top.2)) (omega (arith, top.3, pow-succ' 2 j)) in
    let set : LastSet bits j = record {
      one = ap (λ (k : ℕ). k % 2) one;
      above = λ i after.
          let grown : 2 ^ suc j ≤ 2 ^ i = pow-le-pow_right (lit< tt) (omega arith) in
          div-eq_of_lt (omega (arith, grown, top.3));
    } in
    subst (LastSet bits) (sym place) set

pub LastSet-below : (k bits n : ℕ) → bits < 2 ^ k → LastSet bits n → n < k
LastSet-below k bits n below set = elim (cases_lt n k) [
  | inl less ↦ less
  | inr past ↦
      let grown : 2 ^ k ≤ 2 ^ n = pow-le-pow_right (lit< tt) past in
      let none : bits / 2 ^ n ≡ 0 = div-eq_of_lt (omega (arith, grown, below)) in
      absurd (omega (arith, set.one, none))
]

-- a bit of a number's lowest ones
low-bit : (n j x : ℕ) → j < n → x % 2 ^ n / 2 ^ j % 2 ≡ x / 2 ^ j % 2
low-bit n j x less =
    let rest : ℕ = n - suc j in
    let split : n ≡ suc rest + j = omega arith in
    let even : 2 ∣ 2 ^ suc rest = subst (λ (k : ℕ). 2 ∣ k) (sym (pow-succ' 2 rest)) (dvd-mul_right 2 (2 ^ rest)) in
    ap (λ (k : ℕ). x % 2 ^ k / 2 ^ j % 2) split ∙ ap (λ (k : ℕ). k % 2) (field_of x (suc rest) j) ∙ mod-mod_of_dvd 2 (x / 2 ^ j) even

-- a digit of a number
digit-at : (n i x : ℕ) (d : Bool) → i < n → get_or (binary_digits n x) i d ≡ (x / 2 ^ i % 2 == 1)
unfolding binary_digits
digit-at zero i x d h = absurd (omega arith)
digit-at (suc n) zero x d h = let whole : x / 1 ≡ x = omega arith in rw whole refl
digit-at (suc n) (suc i) x d h =
    let less : i < n = omega arith in
    let next : x / 2 / 2 ^ i ≡ x / 2 ^ suc i = div-div-eq-div-mul x 2 (2 ^ i) ∙ ap (λ (k : ℕ). x / k) (sym (pow-succ' 2 i)) in
    rw (digit-at n i (x / 2) d less, next) refl

-- a bit of four bytes
four-bit : (bytes : List ℕ) (first i : ℕ) → AreBytes bytes → first + 4 ≤ length bytes → i < 32
    → (little_number (take 4 (drop first bytes)) / 2 ^ i % 2 == 1) ≡ (get_or bytes ((8 * first + i) / 8) 0 / 2 ^ ((8 * first + i) % 8) % 2 == 1)
four-bit bytes first i are long less =
    let four : List ℕ = take 4 (drop first bytes) in
    let size : length (take 4 (drop first bytes)) ≡ 4 = length-take-le 4 (drop first bytes) (omega (arith, length-drop first bytes)) in
    let small : AreBytes (take 4 (drop first bytes)) = AreBytes-take 4 (drop first bytes) (AreBytes-drop first bytes are) in
    let byte : get_or (take 4 (drop first bytes)) (i / 8) 0 ≡ get_or bytes ((8 * first + i) / 8) 0 =
    get_or-take 4 (drop first bytes) (i / 8) 0 (omega arith) ∙ get_or-drop first bytes (i / 8) 0 ∙ ap (λ (k : ℕ). get_or bytes k 0) (omega arith) in
    let bit : i % 8 ≡ (8 * first + i) % 8 = omega arith in
    sym (digit-at 32 i (little_number (take 4 (drop first bytes))) true less)
    ∙ binary_digits-of_bytes (take 4 (drop first bytes)) 32 i true small (omega (arith, size)) less
    ∙ ap (λ (b : ℕ). b / 2 ^ (i % 8) % 2 == 1) byte
    ∙ ap (λ (k : ℕ). get_or bytes ((8 * first + i) / 8) 0 / 2 ^ k % 2 == 1) bit

module _ (count width : ℕ) (table code mask : List ℕ) (keeps : AreParts count width table code mask) where
  -- a bit of four bytes of the mask
  window-bit : (first i : ℕ) → first + 4 ≤ length mask → i < 32 → 8 * first + i < length code → (little_number (take 4 (drop first mask)) / 2 ^ i % 2 == 1) ≡ mask_bit (program_of count width table code mask) (8 * first + i)
  window-bit first i long less within =
      four-bit mask first i keeps.bytes long less ∙ sym (mask_bit-kept count width table code mask (8 * first + i) keeps within)

  -- a bit of four bytes of the marks, up to the one after the code
  module _ (marks : List ℕ) (are : AreMarks (length code) mask marks) where
    mark-bit : (first i : ℕ) → first + 4 ≤ length marks → i < 32 → 8 * first + i ≤ length code → (little_number (take 4 (drop first marks)) / 2 ^ i % 2 == 1) ≡ mask_bit (program_of count width table code mask) (8 * first + i)
    mark-bit first i long less within = elim (cases_lt (8 * first + i) (length code)) [
      | inl inside ↦
          four-bit marks first i are.bytes long less
          ∙ ap (λ (k : ℕ). k == 1) (are.same (8 * first + i) inside)
          ∙ sym (mask_bit-kept count width table code mask (8 * first + i) keeps inside)
      | inr outside ↦
          let last : 8 * first + i ≡ length code = omega (arith, within, outside) in
          four-bit marks first i are.bytes long less
          ∙ ap (λ (k : ℕ). get_or marks (k / 8) 0 / 2 ^ (k % 8) % 2 == 1) last
          ∙ ap (λ (k : ℕ). k == 1) are.end
          ∙ sym (mask_bit-past count width table code mask (8 * first + i) outside)
    ]

    -- the marks from a place on: its own, and those of the places after it
    module _ (place bits : ℕ) (within : place < length code) (is : bits ≡ little_number (take 4 (drop (place / 8) marks)) / 2 ^ (place % 8)) where
      mark-at : (j : ℕ) → j ≤ 24 → place + j ≤ length code → (bits / 2 ^ j % 2 == 1) ≡ mask_bit (program_of count width table code mask) (place + j)
      mark-at j few inside =
          let number : ℕ = little_number (take 4 (drop (place / 8) marks)) in
          let here : 8 * (place / 8) + (place % 8 + j) ≡ place + j = omega arith in
          ap (λ (k : ℕ). k / 2 ^ j % 2 == 1) is
          ∙ ap (λ (k : ℕ). k % 2 == 1) (shr-shr number (place % 8) j)
          ∙ mark-bit (place / 8) (place % 8 + j) (omega (arith, keeps.bits, are.long)) (omega arith) (omega (arith, inside))
          ∙ ap (mask_bit (program_of count width table code mask)) here

      pub own-mark : (bits % 2 == 1) ≡ mask_bit (program_of count width table code mask) place
      own-mark =
          let whole : bits / 1 ≡ bits = omega arith in
          let here : place + 0 ≡ place = omega arith in
          ap (λ (k : ℕ). k % 2 == 1) (sym whole) ∙ mark-at 0 (omega arith) (omega arith) ∙ ap (mask_bit (program_of count width table code mask)) here

      pub next-mark : (n : ℕ) → FirstSet (bits / 2) n → skip (program_of count width table code mask) place ≡ n
      next-mark n set =
          let at : (j : ℕ) → j < 24 → place + 1 + j ≤ length code → (bits / 2 / 2 ^ j % 2 == 1) ≡ mask_bit (program_of count width table code mask) (place + 1 + j) = λ j few inside.
          let here : place + (1 + j) ≡ place + 1 + j = omega arith in
          ap (λ (k : ℕ). k % 2 == 1) (shr-shr bits 1 j) ∙ mark-at (1 + j) (omega arith) (omega arith) ∙ ap (mask_bit (program_of count width table code mask)) here in
          let enough : place + 1 + n ≤ length code = elim (cases_lt (length code) (place + 1 + n)) [
            | inl less ↦
                let k : ℕ = length code - (place + 1) in
                let last : (0 == 1) ≡ true =
                ap (λ (b : ℕ). b == 1) (sym (set.zeros k (omega arith)))
                ∙ at k (omega (arith, set.most)) (omega arith)
                ∙ mask_bit-past count width table code mask (place + 1 + k) (omega arith) in
                absurd (cc last)
            | inr more ↦ more
          ] in
          gap-is (program_of count width table code mask) (place + 1) 24 n set.most
          (λ j after before.
          let here : place + 1 + (j - (place + 1)) ≡ j = omega arith in
          ap (mask_bit (program_of count width table code mask)) (sym here)
          ∙ sym (at (j - (place + 1)) (omega (arith, set.most)) (omega (arith, enough)))
          ∙ ap (λ (k : ℕ). k == 1) (set.zeros (j - (place + 1)) (omega arith)))
          (λ less. sym (at n less enough) ∙ ap (λ (k : ℕ). k == 1) (set.one less))

  -- the last set bit of those of the 25 places before tells the nearest instruction before, if there is one
  module _ (place : ℕ) (far : 25 ≤ place) (within : place < length code) where
    before-bits : ℕ
    before-bits = little_number (take 4 (drop ((place - 25) / 8) mask)) / 2 ^ ((place - 25) % 8) % 2 ^ 25

    before-at : (j : ℕ) → place - 25 ≤ j → j < place → mask_bit (program_of count width table code mask) j ≡ (before-bits / 2 ^ (j - (place - 25)) % 2 == 1)
    unfolding before-bits
    before-at j after before =
        let from : ℕ = place - 25 in
        let number : ℕ = little_number (take 4 (drop (from / 8) mask)) in
        let i : ℕ = j - from in
        let here : 8 * (from / 8) + (from % 8 + i) ≡ j = omega arith in
        ap (mask_bit (program_of count width table code mask)) (sym here)
        ∙ sym (window-bit (from / 8) (from % 8 + i) (omega (arith, keeps.bits)) (omega arith) (omega arith))
        ∙ ap (λ (k : ℕ). k % 2 == 1) (sym (shr-shr number (from % 8) i))
        ∙ ap (λ (k : ℕ). k == 1) (sym (low-bit 25 i (number / 2 ^ (from % 8)) (omega arith)))

    pub begun-window : (bits n : ℕ) → bits ≡ little_number (take 4 (drop ((place - 25) / 8) mask)) / 2 ^ ((place - 25) % 8) % 2 ^ 25 → n < 25 → LastSet bits n
        → (mask_bit (program_of count width table code mask) (place - 25 + n) ≡ true) × ((j : ℕ) → place - 25 + n < j → j < place → mask_bit (program_of count width table code mask) j ≡ false)
    unfolding before-bits
    begun-window bits n is few set = (
      before-at (place - 25 + n) (omega arith) (omega arith)
          ∙ ap (λ (k : ℕ). before-bits / 2 ^ k % 2 == 1) (omega arith)
          ∙ ap (λ (k : ℕ). k / 2 ^ n % 2 == 1) (sym is)
          ∙ ap (λ (k : ℕ). k == 1) set.one,
      λ j after before.
          before-at j (omega arith) before
          ∙ ap (λ (k : ℕ). k / 2 ^ (j - (place - 25)) % 2 == 1) (sym is)
          ∙ ap (λ (k : ℕ). k % 2 == 1) (set.above (j - (place - 25)) (omega arith)),
    )

    pub begun-nowhere : (bits : ℕ) → bits ≡ little_number (take 4 (drop ((place - 25) / 8) mask)) / 2 ^ ((place - 25) % 8) % 2 ^ 25 → bits ≡ 0
        → (j : ℕ) → j < place → place ≤ j + 25 → mask_bit (program_of count width table code mask) j ≡ false
    unfolding before-bits
    begun-nowhere bits is none j before near =
        before-at j (omega arith) before
        ∙ ap (λ (k : ℕ). k / 2 ^ (j - (place - 25)) % 2 == 1) (sym is ∙ none)
        ∙ ap (λ (k : ℕ). k % 2 == 1) (div-eq_of_lt (omega (arith, one-le-pow (j - (place - 25)) 2 (lit< tt))))
