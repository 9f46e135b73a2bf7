-- What a watcher was told, from one state of a run to the next.
use Rattle.std.proofs.Common.{◌≡◌, ℕ, zero, suc, ◌+◌, ◌-◌, ◌<◌, ◌≤◌, List, [], ◌∷◌, ◌++◌, append-nil, append_assoc, ap, sym, subst, ◌∙◌, refl, arith, Option, Some, None}
use Rattle.std.specs.Prelude.{nat_lt, is_some, ◌||◌, if◌then◌else◌}
use Rattle.std.proofs.lemmas.Bool.{lt-ltb, le-ltb}
use Rattle.blob_decode.specs.Program.{Program}
use Rattle.pvm_step.specs.declared.exit.Exit.{Exit}
use Rattle.pvm_step.specs.declared.watcher.PaidInstruction.{PaidInstruction}
use Rattle.gas_ledger.specs.Schedule.{IsSchedule}
use Rattle.pvm_step.specs.History.{Moment, cost, step, reached, states, states_after, history}
use Rattle.pvm_step.specs.Watched.{instruction_at, paid_at, paid_instructions, WasTold}
use Rattle.pvm_step.proofs.Reached.{reached-ended, reached-step, reached-none, ends}

-- ---- One state

pub paid_at-ended : (k : ℕ) (p : Program) (m : Moment) (e : Exit) → m.exit ≡ Some e → paid_at k p m ≡ []
paid_at-ended k p m e has = ap (λ (o : Option Exit). if is_some o || nat_lt m.gas (cost p m) then [] else instruction_at k p m ∷ []) has

pub paid_at-short : (k : ℕ) (p : Program) (m : Moment) → m.exit ≡ None → m.gas < cost p m → paid_at k p m ≡ []
paid_at-short k p m going short =
    ap (λ (o : Option Exit). if is_some o || nat_lt m.gas (cost p m) then [] else instruction_at k p m ∷ []) going
    ∙ ap (λ b. if b then [] else instruction_at k p m ∷ []) (lt-ltb m.gas (cost p m) short)

pub paid_at-paid : (k : ℕ) (p : Program) (m : Moment) → m.exit ≡ None → cost p m ≤ m.gas → paid_at k p m ≡ instruction_at k p m ∷ []
paid_at-paid k p m going enough =
    ap (λ (o : Option Exit). if is_some o || nat_lt m.gas (cost p m) then [] else instruction_at k p m ∷ []) going
    ∙ ap (λ b. if b then [] else instruction_at k p m ∷ []) (le-ltb m.gas (cost p m) enough)

-- ---- The states of a run

-- from an end on there is none
pub paid-ended : (k n : ℕ) (p : Program) (m : Moment) (e : Exit) → m.exit ≡ Some e → paid_instructions k p (states n p m) ≡ []
unfolding states paid_instructions
paid-ended k zero p m e has = refl
paid-ended k (suc n) p m e has =
    ap (λ (o : Option Exit). paid_instructions k p (m ∷ states_after o (states n p (step p m)))) has
    ∙ ap (λ (made : List PaidInstruction). made ++ []) (paid_at-ended k p m e has)

pub paid-none : (p : Program) (m : Moment) → paid_instructions 1 p (states 0 p m) ≡ []
unfolding states paid_instructions
paid-none p m = refl

-- those of more states are those of the first, and then those of the others
paid-split_by : (n j k : ℕ) (p : Program) (m : Moment) (o : Option Exit) → m.exit ≡ o
    → paid_instructions (k + 1) p (states (n + j) p (step p m)) ≡ paid_instructions (k + 1) p (states n p (step p m)) ++ paid_instructions (k + 1 + n) p (states j p (reached n p (step p m)))
    → paid_instructions k p (states (suc n + j) p m) ≡ paid_instructions k p (states (suc n) p m) ++ paid_instructions (k + suc n) p (states j p (reached (suc n) p m))
unfolding states paid_instructions
paid-split_by n j k p m (Some e) is rest =
    let first : paid_instructions k p (states (suc n) p m) ≡ [] = paid-ended k (suc n) p m e is in
    let others : paid_instructions (k + suc n) p (states j p (reached (suc n) p m)) ≡ [] =
    ap (λ (h : Moment). paid_instructions (k + suc n) p (states j p h)) (reached-ended (suc n) p m e is) ∙ paid-ended (k + suc n) j p m e is in
    paid-ended k (suc n + j) p m e is ∙ sym (λ i. first i ++ others i)
paid-split_by n j k p m None is rest =
    let more : suc n + j ≡ suc (n + j) = omega arith in
    let number : k + 1 + n ≡ k + suc n = omega arith in
    let first : (x : ℕ) → paid_instructions k p (states (suc x) p m) ≡ paid_at k p m ++ paid_instructions (k + 1) p (states x p (step p m)) =
    λ x. ap (λ (o : Option Exit). paid_instructions k p (m ∷ states_after o (states x p (step p m)))) is in
    let on : reached n p (step p m) ≡ reached (suc n) p m = sym (reached-step n p m is) in
    ap (λ (x : ℕ). paid_instructions k p (states x p m)) more
    ∙ first (n + j)
    ∙ ap (λ (l : List PaidInstruction). paid_at k p m ++ l) rest
    ∙ sym (append_assoc (paid_at k p m) (paid_instructions (k + 1) p (states n p (step p m))) (paid_instructions (k + 1 + n) p (states j p (reached n p (step p m)))))
    ∙ ap (λ (l : List PaidInstruction). l ++ paid_instructions (k + 1 + n) p (states j p (reached n p (step p m)))) (sym (first n))
    ∙ (λ i. paid_instructions k p (states (suc n) p m) ++ paid_instructions (number i) p (states j p (on i)))

pub paid-split : (n j k : ℕ) (p : Program) (m : Moment)
    → paid_instructions k p (states (n + j) p m) ≡ paid_instructions k p (states n p m) ++ paid_instructions (k + n) p (states j p (reached n p m))
unfolding states paid_instructions
paid-split zero j k p m =
    let none : zero + j ≡ j = omega arith in
    let number : k ≡ k + zero = omega arith in
    let here : m ≡ reached 0 p m = sym (reached-none p m) in
    ap (λ (x : ℕ). paid_instructions k p (states x p m)) none ∙ (λ i. paid_instructions (number i) p (states j p (here i)))
paid-split (suc n) j k p m = paid-split_by n j k p m m.exit refl (paid-split n j (k + 1) p (step p m))

after-nothing : (o : Option Exit) → states_after o [] ≡ []
after-nothing None = refl
after-nothing (Some e) = refl

paid-one : (k : ℕ) (p : Program) (m : Moment) → paid_instructions k p (states 1 p m) ≡ paid_at k p m
unfolding states paid_instructions
paid-one k p m = ap (λ (ms : List Moment). paid_instructions k p (m ∷ ms)) (after-nothing m.exit) ∙ append-nil (paid_at k p m)

-- those of one state more
pub paid-more : (n : ℕ) (p : Program) (m h : Moment) → h ≡ reached n p m → paid_instructions 1 p (states (n + 1) p m) ≡ paid_instructions 1 p (states n p m) ++ paid_at (n + 1) p h
paid-more n p m h is =
    let number : 1 + n ≡ n + 1 = omega arith in
    let here : reached n p m ≡ h = sym is in
    paid-split n 1 1 p m
    ∙ ap (λ (l : List PaidInstruction). paid_instructions 1 p (states n p m) ++ l) (paid-one (1 + n) p (reached n p m) ∙ (λ i. paid_at (number i) p (here i)))

-- those of all states up to an end
pub paid-to_end : (k n fuel : ℕ) (p : Program) (m : Moment) (e : Exit) → n ≤ fuel → (reached n p m).exit ≡ Some e → paid_instructions k p (states n p m) ≡ paid_instructions k p (states fuel p m)
paid-to_end k n fuel p m e less has =
    let all : fuel ≡ n + (fuel - n) = omega (arith, less) in
    sym (ap (λ (x : ℕ). paid_instructions k p (states x p m)) all
    ∙ paid-split n (fuel - n) k p m
    ∙ ap (λ (l : List PaidInstruction). paid_instructions k p (states n p m) ++ l) (paid-ended (k + n) (fuel - n) p (reached n p m) e has)
    ∙ append-nil (paid_instructions k p (states n p m)))

pub paid-all : (n : ℕ) (p : Program) (m : Moment) → IsSchedule m.costs → m.gas < n → paid_instructions 1 p (states n p m) ≡ paid_instructions 1 p (history p m)
paid-all n p m is less =
    let end : (e : Exit) × ((reached (m.gas + 1) p m).exit ≡ Some e) = ends (m.gas + 1) p m is (omega arith) in
    sym (paid-to_end 1 (m.gas + 1) n p m end.0 (omega (arith, less)) end.1) ∙ paid-to_end 1 (m.gas + 1) (m.gas + 2) p m end.0 (omega arith) end.1

-- ---- A watcher

module _ {W : Type 0} (HasSeen : W → List PaidInstruction → Type 0) where
  pub told-none : (w : W) (told : List PaidInstruction) → told ≡ [] → WasTold HasSeen w w told
  told-none w told none seen h = subst (HasSeen w) (sym (ap (λ (l : List PaidInstruction). seen ++ l) none ∙ append-nil seen)) h

  pub told-more : (u v w : W) (a b : List PaidInstruction) → WasTold HasSeen u v a → WasTold HasSeen v w b → WasTold HasSeen u w (a ++ b)
  told-more u v w a b first second seen h = subst (HasSeen w) (append_assoc seen a b) (second (seen ++ a) (first seen h))

  pub told-same : (v w : W) (a b : List PaidInstruction) → a ≡ b → WasTold HasSeen v w a → WasTold HasSeen v w b
  told-same v w a b same told = subst (WasTold HasSeen v w) same told
