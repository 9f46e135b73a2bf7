-- Where instructions and blocks begin.
use Rattle.std.proofs.Common.{◌≡◌, ℕ, zero, suc, ◌+◌, ◌-◌, ◌<◌, ◌≤◌, Bool, true, false, ◌&&◌, ◌||◌, ◌↔◌, IsTrue, length, Option, Some, None, is_some, refl, arith, inl, inr, sym, ◌∙◌, ap}
use Rattle.std.specs.Prelude.{◌==◌, nat_lt}
use Rattle.std.specs.Bool.{Decides}
use Rattle.std.proofs.lemmas.Bool.{cases_lt, cases_order, cases_Bool, eqb-true, eq-eqb, ltb-true, lt-ltb, and_parts, and_from, or_cases, or_left, or_right, false_from_ne_true}
use Rattle.std.proofs.lemmas.Bool.Decides.{Decides-below_or}
use Rattle.pvm_isa.specs.Opcodes.{number_of, op_numbered}
use Rattle.pvm_isa.specs.Terminators.{is_terminator}
use Rattle.blob_decode.specs.Kept.{IsNearest, NoneNear}
use Rattle.blob_decode.specs.Program.{Program, mask_bit, gap, skip, IsSkip, next, op_begins, ends, ends_block, ends_before, some_below, is_start, IsStart}
use Rattle.pvm_isa.specs.Arguments.{code_byte}
use Rattle.pvm_isa.specs.declared.op.Op.{Op}
use Rattle.pvm_isa.specs.OpcodeLaws.{numbered, numbered-only}

-- of n places from k on, at most n stand before the next instruction
pub gap-most : (p : Program) (k n : ℕ) → gap p k n ≤ n
unfolding gap
gap-most p k zero = omega arith
gap-most p k (suc n) = elim (cases_Bool (mask_bit p k)) [
  | inl begins ↦ rw begins (omega arith)
  | inr goes ↦ rw goes (omega (arith, gap-most p (k + 1) n))
]

pub gap-here : (p : Program) (k n : ℕ) → mask_bit p k ≡ true → gap p k n ≡ 0
unfolding gap
gap-here p k zero begins = refl
gap-here p k (suc n) begins = rw begins refl

pub gap-on : (p : Program) (k n : ℕ) → mask_bit p k ≡ false → gap p k (suc n) ≡ gap p (k + 1) n + 1
unfolding gap
gap-on p k n goes = rw goes refl

-- no instruction that begins at j from k on is passed
gap-stops : (p : Program) (k n j : ℕ) → k ≤ j → mask_bit p j ≡ true → k + gap p k n ≤ j
unfolding gap
gap-stops p k zero j from begins = omega arith
gap-stops p k (suc n) j from begins = elim (cases_Bool (mask_bit p k)) [
  | inl here ↦ rw here (omega arith)
  | inr goes ↦ elim (cases_lt k j) [
    | inl less ↦ rw goes (omega (arith, gap-stops p (k + 1) n j (omega arith) begins))
    | inr more ↦
        let same : j ≡ k = omega arith in
        let both : true ≡ false = sym begins ∙ ap (mask_bit p) same ∙ goes in
        absurd (cc both)
  ]
]

-- m places stand before the next instruction, where none of them begins one
pub gap-is : (p : Program) (k n m : ℕ) → m ≤ n → ((j : ℕ) → k ≤ j → j < k + m → mask_bit p j ≡ false) → (m < n → mask_bit p (k + m) ≡ true) → gap p k n ≡ m
unfolding gap
gap-is p k zero m most none ends = omega arith
gap-is p k (suc n) zero most none ends =
    let place : k + 0 ≡ k = omega arith in
    let here : mask_bit p k ≡ true = ap (mask_bit p) (sym place) ∙ ends (omega arith) in
    rw here refl
gap-is p k (suc n) (suc m) most none ends =
    let goes : mask_bit p k ≡ false = none k (omega arith) (omega arith) in
    let more : gap p (k + 1) n ≡ m =
    gap-is p (k + 1) n m (omega arith) (λ j from below. none j (omega arith) (omega arith))
    (λ less. let place : k + suc m ≡ k + 1 + m = omega arith in ap (mask_bit p) (sym place) ∙ ends (omega arith)) in
    rw goes (omega (arith, more))

-- the places passed are fewer than n only where the next instruction begins after them
gap-ends : (p : Program) (k n : ℕ) → gap p k n < n → mask_bit p (k + gap p k n) ≡ true
gap-ends p k zero less = absurd (omega (arith, less))
gap-ends p k (suc n) less = elim (cases_Bool (mask_bit p k)) [
  | inl begins ↦
      let place : k + gap p k (suc n) ≡ k = omega (arith, gap-here p k (suc n) begins) in
      ap (mask_bit p) place ∙ begins
  | inr goes ↦
      let more : gap p k (suc n) ≡ gap p (k + 1) n + 1 = gap-on p k n goes in
      let place : k + gap p k (suc n) ≡ k + 1 + gap p (k + 1) n = omega (arith, more) in
      ap (mask_bit p) place ∙ gap-ends p (k + 1) n (omega (arith, less, more))
]

-- the skip in words, and no other number is it
pub skip-IsSkip : (p : Program) (i : ℕ) → IsSkip p i (skip p i)
skip-IsSkip p i = record {
  most = gap-most p (i + 1) 24;
  none_nearer = λ j less. elim (cases_Bool (mask_bit p (i + 1 + j))) [
    | inl begins ↦ absurd (omega (arith, less, gap-stops p (i + 1) 24 (i + 1 + j) (omega arith) begins))
    | inr goes ↦ goes
  ];
  begins = λ less. gap-ends p (i + 1) 24 less;
}

pub skip-only : (p : Program) (i n : ℕ) → IsSkip p i n → n ≡ skip p i
skip-only p i n is =
    sym (gap-is p (i + 1) 24 n is.most
    (λ j from below.
    let place : i + 1 + (j - (i + 1)) ≡ j = omega (arith, from) in
    ap (mask_bit p) (sym place) ∙ is.none_nearer (j - (i + 1)) (omega (arith, from, below)))
    is.begins)

next-nearest : (p : Program) (i n : ℕ) → IsNearest p i n → mask_bit p i ≡ true → next p n ≡ i
next-nearest p i n nearest begins =
    let place : n + 1 + (i - n - 1) ≡ i = omega (arith, nearest.before) in
    let most : i - n - 1 ≤ 24 = omega (arith, nearest.near) in
    let is : gap p (n + 1) 24 ≡ i - n - 1 =
    gap-is p (n + 1) 24 (i - n - 1) most (λ j from below. nearest.none j (omega arith) (omega (arith, place))) (λ less. ap (mask_bit p) place ∙ begins) in
    omega (arith, is, place)

-- no other instruction ends there
only-nearest : (p : Program) (i n k : ℕ) → IsNearest p i n → mask_bit p k ≡ true → next p k ≡ i → k ≡ n
only-nearest p i n k nearest begins ends = elim (cases_order k n) [
  | inl same ↦ same
  | inr other ↦ elim other [
    | inl less ↦ absurd (omega (arith, gap-stops p (k + 1) 24 n (omega arith) nearest.begins, nearest.before, ends))
    | inr more ↦
        let none : mask_bit p k ≡ false = nearest.none k (omega arith) (omega (arith, ends)) in
        absurd (cc (begins, none))
  ]
]

none-before : (p : Program) (i k : ℕ) → NoneNear p i → mask_bit p k ≡ true → next p k ≡ i → ⊥
none-before p i k none begins ends =
    let goes : mask_bit p k ≡ false = none k (omega (arith, ends)) (omega (arith, ends, gap-most p (k + 1) 24)) in
    absurd (cc (begins, goes))

-- a test that passes somewhere below n
some_below-Decides : (n : ℕ) (test : ℕ → Bool) → Decides (some_below n test) ((k : ℕ) × (k < n) × (test k ≡ true))
unfolding some_below
some_below-Decides n test = Decides-below_or test (λ k. test k ≡ true) (λ n. some_below n test) (λ k. (λ e. e, λ e. e)) refl (λ n. refl) n

ends_before-Decides : (p : Program) (i n : ℕ) → Decides (ends_before p i n) ((mask_bit p n ≡ true) × (ends_block (code_byte p.code n) ≡ true) × (next p n ≡ i))
ends_before-Decides p i n = (
  λ e.
      let parts : ((mask_bit p n && ends_block (code_byte p.code n)) ≡ true) × ((next p n == i) ≡ true) = and_parts (mask_bit p n && ends_block (code_byte p.code n)) (next p n == i) e in
      let first : (mask_bit p n ≡ true) × (ends_block (code_byte p.code n) ≡ true) = and_parts (mask_bit p n) (ends_block (code_byte p.code n)) parts.0 in
      (first.0, first.1, eqb-true (next p n) i parts.1),
  λ h. and_from (mask_bit p n && ends_block (code_byte p.code n)) (next p n == i) (and_from (mask_bit p n) (ends_block (code_byte p.code n)) h.0 h.1) (eq-eqb (next p n) i h.2),
)

-- some instruction that ends a block ends right before i
abbrev pub ended : (p : Program) (i : ℕ) → Bool
ended p i = some_below (length p.code) (ends_before p i)

ended-Decides : (p : Program) (i : ℕ) → Decides (ended p i) ((n : ℕ) × (n < length p.code) × (mask_bit p n ≡ true) × (ends_block (code_byte p.code n) ≡ true) × (next p n ≡ i))
ended-Decides p i = (
  λ e.
      let k : (k : ℕ) × (k < length p.code) × (ends_before p i k ≡ true) = (some_below-Decides (length p.code) (ends_before p i)).0 e in
      let parts : (mask_bit p k.0 ≡ true) × (ends_block (code_byte p.code k.0) ≡ true) × (next p k.0 ≡ i) = (ends_before-Decides p i k.0).0 k.2 in
      (k.0, k.1, parts.0, parts.1, parts.2),
  λ h. (some_below-Decides (length p.code) (ends_before p i)).1 (h.0, h.1, (ends_before-Decides p i h.0).1 (h.2, h.3, h.4)),
)

pub ended-nearest : (p : Program) (i n : ℕ) → IsNearest p i n → n < length p.code → mask_bit p i ≡ true → ended p i ≡ ends_block (code_byte p.code n)
ended-nearest p i n nearest within begins = elim (cases_Bool (ends_block (code_byte p.code n))) [
  | inl ends ↦ (ended-Decides p i).1 (n, within, nearest.begins, ends, next-nearest p i n nearest begins) ∙ sym ends
  | inr goes ↦
      false_from_ne_true (ended p i) (λ e.
      let k : (k : ℕ) × (k < length p.code) × (mask_bit p k ≡ true) × (ends_block (code_byte p.code k) ≡ true) × (next p k ≡ i) = (ended-Decides p i).0 e in
      let same : k.0 ≡ n = only-nearest p i n k.0 nearest k.2 k.4 in
      let ends : ends_block (code_byte p.code n) ≡ true = ap (λ (j : ℕ). ends_block (code_byte p.code j)) (sym same) ∙ k.3 in
      absurd (cc (ends, goes)))
      ∙ sym goes
]

pub ended-none : (p : Program) (i : ℕ) → ((j : ℕ) → j < i → i ≤ j + 25 → mask_bit p j ≡ false) → ended p i ≡ false
ended-none p i none =
    false_from_ne_true (ended p i) (λ e.
    let k : (k : ℕ) × (k < length p.code) × (mask_bit p k ≡ true) × (ends_block (code_byte p.code k) ≡ true) × (next p k ≡ i) = (ended-Decides p i).0 e in
    none-before p i k.0 none k.2 k.4)

-- an instruction with a defined opcode, in words
some_number : (b : ℕ) (found : Option Op) → ((op : Op) → found ≡ Some op → number_of op ≡ b) → is_some found ≡ true → (op : Op) × (number_of op ≡ b)
some_number b None own some = absurd (cc some)
some_number b (Some op) own some = (op, own op refl)

defined-Decides : (b : ℕ) → Decides (is_some (op_numbered b)) ((op : Op) × (number_of op ≡ b))
defined-Decides b = (
  some_number b (op_numbered b) (numbered-only b),
  λ h. let found : op_numbered b ≡ Some h.0 = ap op_numbered (sym h.1) ∙ numbered h.0 in rw found refl,
)

-- the number of an opcode that ends a block, in words
ends-some : (b : ℕ) (found : Option Op) → op_numbered b ≡ found → ends found ≡ true → (op : Op) × (number_of op ≡ b) × (is_terminator op ≡ true)
ends-some b None e h = absurd (cc h)
ends-some b (Some op) e h = (op, numbered-only b op e, h)

ends_block-Decides : (b : ℕ) → Decides (ends_block b) ((op : Op) × (number_of op ≡ b) × (is_terminator op ≡ true))
ends_block-Decides b = (
  ends-some b (op_numbered b) refl,
  λ h. let found : op_numbered b ≡ Some h.0 = ap op_numbered (sym h.1) ∙ numbered h.0 in rw found h.2,
)

op_begins-Decides : (p : Program) (i : ℕ) → Decides (op_begins p i) ((i < length p.code) × (mask_bit p i ≡ true) × ((op : Op) × (number_of op ≡ code_byte p.code i)))
op_begins-Decides p i = (
  λ e.
      let parts : ((nat_lt i (length p.code) && mask_bit p i) ≡ true) × (is_some (op_numbered (code_byte p.code i)) ≡ true) = and_parts (nat_lt i (length p.code) && mask_bit p i) (is_some (op_numbered (code_byte p.code i))) e in
      let first : (nat_lt i (length p.code) ≡ true) × (mask_bit p i ≡ true) = and_parts (nat_lt i (length p.code)) (mask_bit p i) parts.0 in
      (ltb-true i (length p.code) first.0, first.1, (defined-Decides (code_byte p.code i)).0 parts.1),
  λ h. and_from (nat_lt i (length p.code) && mask_bit p i) (is_some (op_numbered (code_byte p.code i)))
      (and_from (nat_lt i (length p.code)) (mask_bit p i) (lt-ltb i (length p.code) h.0) h.1)
      ((defined-Decides (code_byte p.code i)).1 h.2),
)

pub is_start-IsStart : (p : Program) (i : ℕ) → IsTrue (is_start p i) ↔ IsStart p i
unfolding is_start
is_start-IsStart p i = (
  λ e.
      let parts : (op_begins p i ≡ true) × ((i == 0 || ended p i) ≡ true) = and_parts (op_begins p i) (i == 0 || ended p i) e in
      let begins : (i < length p.code) × (mask_bit p i ≡ true) × ((op : Op) × (number_of op ≡ code_byte p.code i)) = (op_begins-Decides p i).0 parts.0 in
      record {
        within = begins.0;
        begins = begins.1;
        defined = begins.2;
        after = elim (or_cases (i == 0) (ended p i) parts.1) [
          | inl first ↦ inl (eqb-true i 0 first)
          | inr later ↦
              let n : (n : ℕ) × (n < length p.code) × (mask_bit p n ≡ true) × (ends_block (code_byte p.code n) ≡ true) × (next p n ≡ i) = (ended-Decides p i).0 later in
              inr (n.0, n.1, n.2, (ends_block-Decides (code_byte p.code n.0)).0 n.3, sym n.4)
        ];
      },
  λ is. and_from (op_begins p i) (i == 0 || ended p i)
      ((op_begins-Decides p i).1 (is.within, is.begins, is.defined))
      (elim is.after [
        | inl first ↦ or_left (i == 0) (ended p i) (eq-eqb i 0 first)
        | inr n ↦ or_right (i == 0) (ended p i) ((ended-Decides p i).1 (n.0, n.1, n.2, (ends_block-Decides (code_byte p.code n.0)).1 n.3, sym n.4))
      ]),
)
