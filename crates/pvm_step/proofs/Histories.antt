-- Histories, step by step.
use Rattle.std.proofs.Common.{◌≡◌, ℕ, zero, suc, ◌+◌, ◌-◌, ◌<◌, ◌≤◌, List, [], ◌∷◌, length, get_or, arith, ap, sym, ◌∙◌, refl, subst, Option, Some, None, false}
use Rattle.std.specs.Prelude.{IsSome, is_some}
use Rattle.std.proofs.lemmas.Bool.{false≢true}
use Rattle.gas_ledger.specs.Schedule.{IsSchedule}
use Rattle.blob_decode.specs.Program.{Program}
use Rattle.pvm_step.specs.declared.exit.Exit.{Exit}
use Rattle.pvm_step.specs.declared.exit.Exit.TheVariants.{OutOfGas}
use Rattle.pvm_step.specs.History.{Moment, cost, step, IsHistory, states_after, states, history, last_state, all_but_last, total_cost, reached, answer, GasNeverRises}
use Rattle.pvm_step.proofs.Steps.{step-gas, step-charged}
use Rattle.pvm_step.proofs.Reached.{reached-ended, reached-step, reached-none, ends}

is_some_of : (o : Option Exit) (e : Exit) → o ≡ Some e → IsSome o
is_some_of o e h = ap is_some h

pub none_has : (m : Moment) → m.exit ≡ None → IsSome m.exit → ⊥
none_has m going has = let no : is_some m.exit ≡ false = ap is_some going in cc

-- the states up to an end are a history
one_state : (p : Program) (m : Moment) (o : Option Exit) → m.exit ≡ o → IsSome m.exit → IsHistory p m (m ∷ states_after o [])
one_state p m None is has = (refl, has)
one_state p m (Some e) is has = (refl, has)

states-are_by : (n : ℕ) (p : Program) (m : Moment) (o : Option Exit) → m.exit ≡ o
    → (IsSome (reached n p (step p m)).exit → IsHistory p (step p m) (states (suc n) p (step p m)))
    → IsSome (reached (suc n) p m).exit → IsHistory p m (m ∷ states_after o (states (suc n) p (step p m)))
unfolding states
states-are_by n p m (Some e) is rest has = (refl, is_some_of m.exit e is)
states-are_by n p m None is rest has = (refl, is, rest (subst (λ (k : Moment). IsSome k.exit) (reached-step n p m is) has))

pub states-are : (n : ℕ) (p : Program) (m : Moment) → IsSome (reached n p m).exit → IsHistory p m (states (suc n) p m)
unfolding states
states-are zero p m has = one_state p m m.exit refl (subst (λ (k : Moment). IsSome k.exit) (reached-none p m) has)
states-are (suc n) p m has = states-are_by n p m m.exit refl (states-are n p (step p m)) has

pub history-is : (p : Program) (m : Moment) → IsSchedule m.costs → IsHistory p m (history p m)
history-is p m is =
    let end : (e : Exit) × ((reached (m.gas + 1) p m).exit ≡ Some e) = ends (m.gas + 1) p m is (omega arith) in
    let next : suc (m.gas + 1) ≡ m.gas + 2 = omega arith in
    subst (λ n. IsHistory p m (states n p m)) next (states-are (m.gas + 1) p m (is_some_of (reached (m.gas + 1) p m).exit end.0 end.1))

-- and the only one
pub one_history : (p : Program) (m : Moment) (ms ns : List Moment) → IsHistory p m ms → IsHistory p m ns → ms ≡ ns
one_history p m [] ns h k = absurd h
one_history p m (a ∷ ms) [] h k = absurd k
one_history p m (a ∷ []) (b ∷ []) h k = ap (λ x. x ∷ []) (h.0 ∙ sym k.0)
one_history p m (a ∷ []) (b ∷ (c ∷ ns)) h k = absurd (none_has m k.1 h.1)
one_history p m (a ∷ (c ∷ ms)) (b ∷ []) h k = absurd (none_has m h.1 k.1)
one_history p m (a ∷ (c ∷ ms)) (b ∷ (d ∷ ns)) h k =
    let rest : c ∷ ms ≡ d ∷ ns = one_history p (step p m) (c ∷ ms) (d ∷ ns) h.2 k.2 in
    let first : a ≡ b = h.0 ∙ sym k.0 in
    cc

-- it has at most gas + 1 steps
states_after-length : (o : Option Exit) (ms : List Moment) → length (states_after o ms) ≤ length ms
states_after-length None ms = omega arith
states_after-length (Some e) ms = omega arith

states-length : (n : ℕ) (p : Program) (m : Moment) → length (states n p m) ≤ n
unfolding states
states-length zero p m = omega arith
states-length (suc n) p m = omega (arith, states_after-length m.exit (states n p (step p m)), states-length n p (step p m))

pub history-short : (p : Program) (m : Moment) (ms : List Moment) → IsSchedule m.costs → IsHistory p m ms → length ms ≤ m.gas + 2
history-short p m ms is h =
    let same : length ms ≡ length (history p m) = ap length (one_history p m ms (history p m) h (history-is p m is)) in
    omega (arith, same, states-length (m.gas + 2) p m)

-- the gas never rises in it
pub first_is : (p : Program) (m n : Moment) (ms : List Moment) → IsHistory p m (n ∷ ms) → n ≡ m
first_is p m n [] h = h.0
first_is p m n (o ∷ ms) h = h.0

pub never_rises : (p : Program) (m : Moment) (ms : List Moment) → IsHistory p m ms → GasNeverRises ms
never_rises p m [] h = absurd h
never_rises p m (n ∷ []) h = tt
never_rises p m (n ∷ (o ∷ ms)) h =
    let second : o.gas ≡ (step p m).gas = ap (λ (k : Moment). k.gas) (first_is p (step p m) o ms h.2) in
    let first : n.gas ≡ m.gas = ap (λ (k : Moment). k.gas) h.0 in
    (omega (arith, step-gas p m, second, first), never_rises p (step p m) (o ∷ ms) h.2)

-- its states are those reached, one after another
pub nth_is : (n : ℕ) (p : Program) (m d : Moment) (ms : List Moment) → IsHistory p m ms → n < length ms → get_or ms n d ≡ reached n p m
nth_is n p m d [] h less = absurd h
nth_is zero p m d (a ∷ []) h less = h.0 ∙ sym (reached-none p m)
nth_is (suc n) p m d (a ∷ []) h less = absurd (omega (arith, less))
nth_is zero p m d (a ∷ (b ∷ ms)) h less = h.0 ∙ sym (reached-none p m)
nth_is (suc n) p m d (a ∷ (b ∷ ms)) h less = nth_is n p (step p m) d (b ∷ ms) h.2 (omega (arith, less)) ∙ sym (reached-step n p m h.1)

-- and the last is the answer
some_exit : (o : Option Exit) → IsSome o → (e : Exit) × (o ≡ Some e)
some_exit None has = absurd (false≢true has)
some_exit (Some e) has = (e, refl)

last_by : (n : ℕ) (p : Program) (m x : Moment) (ms : List Moment) → IsHistory p m ms → length ms ≤ n + 1 → last_state x ms ≡ reached n p m
last_by n p m x [] h le = absurd h
last_by n p m x (a ∷ []) h le = let end : (e : Exit) × (m.exit ≡ Some e) = some_exit m.exit h.1 in h.0 ∙ sym (reached-ended n p m end.0 end.1)
last_by zero p m x (a ∷ (b ∷ ms)) h le = absurd (omega (arith, le))
last_by (suc n) p m x (a ∷ (b ∷ ms)) h le = last_by n p (step p m) a (b ∷ ms) h.2 (omega (arith, le)) ∙ sym (reached-step n p m h.1)

pub last_is : (p : Program) (m : Moment) (ms : List Moment) → IsSchedule m.costs → IsHistory p m ms → last_state m ms ≡ answer p m
last_is p m ms is h = last_by (m.gas + 1) p m m ms h (omega (arith, history-short p m ms is h))

-- ---- Gas

-- a state with an exit is the last
out_last : (p : Program) (b : Moment) (ms : List Moment) → IsHistory p b (b ∷ ms) → b.exit ≡ Some OutOfGas → (last_state b ms).exit ≡ Some OutOfGas
out_last p b [] h out = out
out_last p b (c ∷ ms) h out = absurd (none_has b h.1 (is_some_of b.exit OutOfGas out))

-- what is left and what the steps cost is what there was, where the run did not end out of gas
pub gas_paid : (p : Program) (m x : Moment) (ms : List Moment) → IsHistory p m ms → ((last_state x ms).exit ≡ Some OutOfGas → ⊥) → total_cost p (all_but_last ms) + (last_state x ms).gas ≡ m.gas
gas_paid p m x [] h not = absurd h
gas_paid p m x (a ∷ []) h not = let same : a.gas ≡ m.gas = ap (λ (k : Moment). k.gas) h.0 in omega arith
gas_paid p m x (a ∷ (b ∷ ms)) h not =
    let second : b ≡ step p m = first_is p (step p m) b ms h.2 in
    let cost_same : cost p a ≡ cost p m = ap (cost p) h.0 in
    let charged : (cost p m ≤ m.gas) × ((step p m).gas ≡ m.gas - cost p m) = step-charged p m (λ out. not (out_last p b ms (subst (λ (k : Moment). IsHistory p k (b ∷ ms)) (sym second) h.2) (ap (λ (k : Moment). k.exit) second ∙ out))) in
    omega (arith, gas_paid p (step p m) a (b ∷ ms) h.2 not, cost_same, charged)
