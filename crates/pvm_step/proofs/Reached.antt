-- The state after so many steps.
use Rattle.std.proofs.Common.{◌≡◌, ℕ, zero, suc, ◌+◌, ◌-◌, ◌<◌, ◌≤◌, ◌∷◌, arith, ap, sym, ◌∙◌, refl, subst, Option, Some, None}
use Rattle.gas_ledger.specs.Schedule.{Schedule, IsSchedule, plain}
use Rattle.blob_decode.specs.Program.{Program, op_at}
use Rattle.pvm_step.specs.declared.exit.Exit.{Exit}
use Rattle.pvm_step.specs.declared.exit.Exit.TheVariants.{OutOfGas}
use Rattle.pvm_step.specs.History.{Moment, cost, step, followed, reached, answer, states_after, states, total_cost, gain}
use Rattle.pvm_step.proofs.Steps.{step-costs, step-charged, step-gain, cost-paid, cost_of-plain}

-- a state that has ended stays
pub reached-ended : (n : ℕ) (p : Program) (m : Moment) (e : Exit) → m.exit ≡ Some e → reached n p m ≡ m
unfolding reached
reached-ended zero p m e has = refl
reached-ended (suc n) p m e has = ap (λ o. reached n p (followed p o m)) has ∙ reached-ended n p m e has

-- another goes on with its step
pub reached-step : (n : ℕ) (p : Program) (m : Moment) → m.exit ≡ None → reached (suc n) p m ≡ reached n p (step p m)
unfolding reached
reached-step n p m going = ap (λ o. reached n p (followed p o m)) going

pub reached-none : (p : Program) (m : Moment) → reached 0 p m ≡ m
unfolding reached
reached-none p m = refl

-- a run that goes on is the run in one piece
pub resumed : (n k : ℕ) (p : Program) (m : Moment) → reached k p (reached n p m) ≡ reached (n + k) p m
unfolding reached
resumed zero k p m = let none : k ≡ zero + k = omega arith in ap (λ j. reached j p m) none
resumed (suc n) k p m =
    let next : suc (n + k) ≡ suc n + k = omega arith in
    resumed n k p (followed p m.exit m) ∙ ap (λ j. reached j p m) next

-- one that ended stays so
pub stays_ended : (n k : ℕ) (p : Program) (m : Moment) (e : Exit) → (reached n p m).exit ≡ Some e → reached (n + k) p m ≡ reached n p m
stays_ended n k p m e has = sym (resumed n k p m) ∙ reached-ended k p (reached n p m) e has

-- ---- One instruction more than were made

pub made-more : (p : Program) (m : Moment) (n : ℕ) (h x : Moment) → h.exit ≡ None → h ≡ reached n p m → x ≡ step p h → x ≡ reached (n + 1) p m
made-more p m n h x going is stepped =
    stepped
    ∙ sym (reached-none p (step p h))
    ∙ sym (reached-step 0 p h going)
    ∙ ap (reached 1 p) is
    ∙ resumed n 1 p m

pub made-last : (p : Program) (m : Moment) (n fuel : ℕ) (h x : Moment) (e : Exit) → n < fuel → h.exit ≡ None → h ≡ reached n p m → x.exit ≡ Some e → x ≡ step p h → x ≡ reached fuel p m
made-last p m n fuel h x e less going is ends stepped =
    let here : x ≡ reached (n + 1) p m = made-more p m n h x going is stepped in
    let all : n + 1 + (fuel - (n + 1)) ≡ fuel = omega arith in
    here
    ∙ sym (stays_ended (n + 1) (fuel - (n + 1)) p m e (ap (λ (k : Moment). k.exit) (sym here) ∙ ends))
    ∙ ap (λ k. reached k p m) all

-- ---- Gas

has_no : (m : Moment) (e : Exit) → m.exit ≡ Some e → m.exit ≡ None → ⊥
has_no m e has none = cc

-- where a run goes on after one step more, that step was paid
record Goes (n : ℕ) (p : Program) (m : Moment) : Type 0 where
  first : m.exit ≡ None
  here : reached (suc n) p m ≡ reached n p (step p m)
  on : (reached n p (step p m)).exit ≡ None
  enough : cost p m ≤ m.gas
  paid : (step p m).gas ≡ m.gas - cost p m

goes_by : (n : ℕ) (p : Program) (m : Moment) (o : Option Exit) → m.exit ≡ o → (reached (suc n) p m).exit ≡ None → Goes n p m
goes_by n p m (Some e) is going = absurd (has_no m e is (ap (λ (k : Moment). k.exit) (sym (reached-ended (suc n) p m e is)) ∙ going))
goes_by n p m None is going =
    let here : reached (suc n) p m ≡ reached n p (step p m) = reached-step n p m is in
    let on : (reached n p (step p m)).exit ≡ None = ap (λ (k : Moment). k.exit) (sym here) ∙ going in
    let charged : (cost p m ≤ m.gas) × ((step p m).gas ≡ m.gas - cost p m) =
    step-charged p m (λ out. has_no (reached n p (step p m)) OutOfGas (ap (λ (k : Moment). k.exit) (reached-ended n p (step p m) OutOfGas out) ∙ out) on) in
    record { first = is; here = here; on = on; enough = charged.0; paid = charged.1 }

goes : (n : ℕ) (p : Program) (m : Moment) → (reached (suc n) p m).exit ≡ None → Goes n p m
goes n p m going = goes_by n p m m.exit refl going

-- the steps of a run that goes on cost what is gone
pub costs_paid : (n : ℕ) (p : Program) (m : Moment) → (reached n p m).exit ≡ None → total_cost p (states n p m) + (reached n p m).gas ≡ m.gas
unfolding states
costs_paid zero p m going = let same : (reached 0 p m).gas ≡ m.gas = ap (λ (k : Moment). k.gas) (reached-none p m) in omega arith
costs_paid (suc n) p m going =
    let g : Goes n p m = goes n p m going in
    let same : (reached (suc n) p m).gas ≡ (reached n p (step p m)).gas = ap (λ (k : Moment). k.gas) g.here in
    let all : total_cost p (m ∷ states_after m.exit (states n p (step p m))) ≡ cost p m + total_cost p (states n p (step p m)) =
    ap (λ o. cost p m + total_cost p (states_after o (states n p (step p m)))) g.first in
    omega (arith, all, costs_paid n p (step p m) g.on, same, g.enough, g.paid)

step-schedule : (p : Program) (m : Moment) → IsSchedule m.costs → IsSchedule (step p m).costs
step-schedule p m is = subst IsSchedule (sym (step-costs p m)) is

pub reached-schedule : (n : ℕ) (p : Program) (m : Moment) → IsSchedule m.costs → IsSchedule (reached n p m).costs
unfolding reached
reached-schedule zero p m is = is
reached-schedule (suc n) p m is = reached-schedule n p (followed p m.exit m) (followed-schedule m.exit)
  where
    followed-schedule : (o : Option Exit) → IsSchedule (followed p o m).costs
    followed-schedule None = step-schedule p m is
    followed-schedule (Some e) = is

-- each step costs at least 1
pub each_costs : (n : ℕ) (p : Program) (m : Moment) → IsSchedule m.costs → (reached n p m).exit ≡ None → n + (reached n p m).gas ≤ m.gas
each_costs zero p m is going = let same : (reached 0 p m).gas ≡ m.gas = ap (λ (k : Moment). k.gas) (reached-none p m) in omega arith
each_costs (suc n) p m is going =
    let g : Goes n p m = goes n p m going in
    let same : (reached (suc n) p m).gas ≡ (reached n p (step p m)).gas = ap (λ (k : Moment). k.gas) g.here in
    omega (arith, each_costs n p (step p m) (step-schedule p m is) g.on, same, g.enough, g.paid, cost-paid p m is)

-- and in the plain schedule it costs 1
pub each_costs_one : (n : ℕ) (p : Program) (m : Moment) → m.costs ≡ plain → (reached n p m).exit ≡ None → n + (reached n p m).gas ≡ m.gas
each_costs_one zero p m is going = let same : (reached 0 p m).gas ≡ m.gas = ap (λ (k : Moment). k.gas) (reached-none p m) in omega arith
each_costs_one (suc n) p m is going =
    let g : Goes n p m = goes n p m going in
    let same : (reached (suc n) p m).gas ≡ (reached n p (step p m)).gas = ap (λ (k : Moment). k.gas) g.here in
    omega (arith, each_costs_one n p (step p m) (step-costs p m ∙ is) g.on, same, g.enough, g.paid, cost_of-plain m.costs (op_at p m.state.pc) (ap (λ (k : Schedule). k.forms) is))

-- ---- The answer

some_of : (o : Option Exit) → (o ≡ None → ⊥) → (e : Exit) × (o ≡ Some e)
some_of None not = absurd (not refl)
some_of (Some e) not = (e, refl)

-- more steps than the gas are its end
pub ends : (n : ℕ) (p : Program) (m : Moment) → IsSchedule m.costs → m.gas < n → (e : Exit) × ((reached n p m).exit ≡ Some e)
ends n p m is less = some_of (reached n p m).exit (λ going. omega (arith, each_costs n p m is going, less))

pub reached-answer : (n : ℕ) (p : Program) (m : Moment) → IsSchedule m.costs → m.gas < n → reached n p m ≡ answer p m
reached-answer n p m is less =
    let end : (e : Exit) × ((reached (m.gas + 1) p m).exit ≡ Some e) = ends (m.gas + 1) p m is (omega arith) in
    let all : n ≡ m.gas + 1 + (n - (m.gas + 1)) = omega arith in
    ap (λ k. reached k p m) all ∙ stays_ended (m.gas + 1) (n - (m.gas + 1)) p m end.0 end.1

-- ---- With more gas

gains_by : (n : ℕ) (p : Program) (m : Moment) (more : ℕ) (o : Option Exit) → m.exit ≡ o
    → (((reached n p (step p m)).exit ≡ Some OutOfGas → ⊥) → reached n p (gain more (step p m)) ≡ gain more (reached n p (step p m)))
    → ((reached (suc n) p m).exit ≡ Some OutOfGas → ⊥) → reached (suc n) p (gain more m) ≡ gain more (reached (suc n) p m)
gains_by n p m more (Some e) is rest not = reached-ended (suc n) p (gain more m) e is ∙ sym (ap (gain more) (reached-ended (suc n) p m e is))
gains_by n p m more None is rest not =
    let here : reached (suc n) p m ≡ reached n p (step p m) = reached-step n p m is in
    let on : (reached n p (step p m)).exit ≡ Some OutOfGas → ⊥ = λ out. not (ap (λ (k : Moment). k.exit) here ∙ out) in
    let charged : (cost p m ≤ m.gas) × ((step p m).gas ≡ m.gas - cost p m) =
    step-charged p m (λ out. on (ap (λ (k : Moment). k.exit) (reached-ended n p (step p m) OutOfGas out) ∙ out)) in
    reached-step n p (gain more m) is
    ∙ ap (reached n p) (step-gain p m more charged.0)
    ∙ rest on
    ∙ sym (ap (gain more) here)

-- a run is the same as far as the smaller gas goes
pub reached-gain : (n : ℕ) (p : Program) (m : Moment) (more : ℕ) → ((reached n p m).exit ≡ Some OutOfGas → ⊥) → reached n p (gain more m) ≡ gain more (reached n p m)
reached-gain zero p m more not = reached-none p (gain more m) ∙ sym (ap (gain more) (reached-none p m))
reached-gain (suc n) p m more not = gains_by n p m more m.exit refl (reached-gain n p (step p m) more) not

pub answer-gain : (p : Program) (m : Moment) (more : ℕ) → IsSchedule m.costs → ((answer p m).exit ≡ Some OutOfGas → ⊥) → answer p (gain more m) ≡ gain more (answer p m)
answer-gain p m more is not =
    let same : reached (m.gas + 1) p (gain more m) ≡ gain more (answer p m) = reached-gain (m.gas + 1) p m more not in
    let end : (e : Exit) × ((answer p m).exit ≡ Some e) = ends (m.gas + 1) p m is (omega arith) in
    let all : m.gas + more + 1 ≡ m.gas + 1 + more = omega arith in
    ap (λ k. reached k p (gain more m)) all
    ∙ stays_ended (m.gas + 1) more p (gain more m) end.0 (ap (λ (k : Moment). k.exit) same ∙ end.1)
    ∙ same
