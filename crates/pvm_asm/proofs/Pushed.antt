-- What is added one item at a time.
use Rattle.std.proofs.Common.{◌≡◌, ◌<◌, ◌+◌, ◌-◌, ◌/◌, ◌%◌, ℕ, zero, suc, List, [], ◌∷◌, ◌++◌, length, drop, get_or, replicate, sym, ap, ◌∙◌, arith, append-nil, append_assoc}
use Rattle.std.proofs.Math.Seq.{drop-cons}
use Rattle.byte_numbers.specs.Numbers.{little_endian}
use Rattle.pvm_asm.specs.Assembly.{entry_bytes}

-- the first of k > 0 bytes was added
pub low_step : (k x : ℕ) (out : List ℕ) → 0 < k → (out ++ (x % 256) ∷ []) ++ little_endian (k - 1) (x / 256) ≡ out ++ little_endian k x
unfolding little_endian
low_step zero x out some = absurd (omega arith)
low_step (suc k) x out some =
    let one : suc k - 1 ≡ k = omega arith in
    rw append_assoc (ap (λ j. out ++ ((x % 256) ∷ little_endian j (x / 256))) one)

pub low_none : (k x : ℕ) (out : List ℕ) → k ≡ 0 → out ++ little_endian k x ≡ out
unfolding little_endian
low_none k x out none = ap (λ j. out ++ little_endian j x) none ∙ append-nil out

pub copies_step : {A : Type 0} (k : ℕ) (x : A) (out : List A) → 0 < k → (out ++ x ∷ []) ++ replicate (k - 1) x ≡ out ++ replicate k x
copies_step zero x out some = absurd (omega arith)
copies_step (suc k) x out some =
    let one : suc k - 1 ≡ k = omega arith in
    rw append_assoc (ap (λ j. out ++ (x ∷ replicate j x)) one)

pub copies_none : {A : Type 0} (k : ℕ) (x : A) (out : List A) → k ≡ 0 → out ++ replicate k x ≡ out
copies_none k x out none = ap (λ j. out ++ replicate j x) none ∙ append-nil out

pub entries_step : (width i : ℕ) (places out : List ℕ) → i < length places
    → (out ++ little_endian width (get_or places i 0)) ++ entry_bytes width (drop (i + 1) places) ≡ out ++ entry_bytes width (drop i places)
entries_step width i places out within =
    let next : suc i ≡ i + 1 = omega arith in
    rw append_assoc (sym (ap (λ rest. out ++ entry_bytes width rest) (drop-cons places i 0 within ∙ ap (λ k. get_or places i 0 ∷ drop k places) next)))
