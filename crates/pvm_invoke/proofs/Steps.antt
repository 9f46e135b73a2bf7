-- A machine's step, with enough gas and with too little.
use Rattle.std.proofs.Common.{◌≡◌, ℕ, zero, suc, ◌+◌, ◌-◌, ◌≤◌, Bool, true, false, [], ◌∷◌, ◌++◌, ap, sym, ◌∙◌, refl, inl, inr, ◌⊎◌, Option, Some, None, lit≤}
use Rattle.std.specs.Prelude.{if◌then◌else◌, nat_lt, is_some, ◌||◌}
use Rattle.gas_ledger.specs.Schedule.{IsSchedule}
use Rattle.gas_ledger.specs.CostLaws.{form_cost-paid}
use Rattle.pvm_isa.specs.declared.op.Op.TheVariants.{Ecalli}
use Rattle.pvm_isa.specs.declared.form.Form.{Form}
use Rattle.pvm_isa.specs.declared.form.Form.TheVariants.{F1}
use Rattle.pvm_isa.specs.Opcodes.{form_of}
use Rattle.blob_decode.specs.Program.{Program, op_at}
use Rattle.pvm_step.specs.declared.exit.Exit.{Exit}
use Rattle.pvm_step.specs.declared.exit.Exit.TheVariants.{OutOfGas, Host}
use Rattle.pvm_step.specs.Effect.{effect}
use Rattle.pvm_step.specs.History.{Moment, form_number, cost_of, cost, step, followed, reached, states_after, states}
use Rattle.pvm_step.specs.Watched.{instruction_at, paid_instructions}
use Rattle.pvm_invoke.proofs.Exits.{ecalli_at, stays_at}

acted : Program → Moment → Moment
acted p m = record m { state = (effect p m.state).state; gas = m.gas - cost p m; exit = (effect p m.state).exit }

empty : Moment → Moment
empty m = record m { gas = 0; exit = Some OutOfGas }

pub step-short : (p : Program) (m : Moment) → nat_lt m.gas (cost p m) ≡ true → step p m ≡ record m { gas = 0; exit = Some OutOfGas }
unfolding step acted empty
step-short p m short = ap (λ b. if b then empty m else acted p m) short

pub step-paid : (p : Program) (m : Moment) → nat_lt m.gas (cost p m) ≡ false → step p m ≡ record m { state = (effect p m.state).state; gas = m.gas - cost p m; exit = (effect p m.state).exit }
unfolding step acted empty
step-paid p m enough = ap (λ b. if b then empty m else acted p m) enough

pub true_or_false : (b : Bool) → (b ≡ true) ⊎ (b ≡ false)
true_or_false true = inl refl
true_or_false false = inr refl

-- each instruction costs at least 1
form_bounds : (f : Form) → (1 ≤ form_number f) × (form_number f ≤ 13)
form_bounds F1 = (lit≤ tt, lit≤ tt)
form_bounds _ = (lit≤ tt, lit≤ tt)

pub cost-paid : (p : Program) (m : Moment) → IsSchedule m.costs → 1 ≤ cost p m
unfolding cost_of
cost-paid p m is =
    let bounds : (1 ≤ form_number (form_of (op_at p m.state.pc))) × (form_number (form_of (op_at p m.state.pc)) ≤ 13) = form_bounds (form_of (op_at p m.state.pc)) in
    form_cost-paid m.costs (form_number (form_of (op_at p m.state.pc))) is bounds.0 bounds.1

-- ---- Runs of instructions

pub reached-ended : (n : ℕ) (p : Program) (m : Moment) (e : Exit) → m.exit ≡ Some e → reached n p m ≡ m
unfolding reached
reached-ended zero p m e has = refl
reached-ended (suc n) p m e has = ap (λ o. reached n p (followed p o m)) has ∙ reached-ended n p m e has

pub paid-ended : (n number : ℕ) (p : Program) (m : Moment) (e : Exit) → m.exit ≡ Some e → paid_instructions number p (states n p m) ≡ []
unfolding states paid_instructions
paid-ended zero number p m e has = refl
paid-ended (suc n) number p m e has =
    ap (λ o. (if is_some o || nat_lt m.gas (cost p m) then [] else instruction_at number p m ∷ []) ++ paid_instructions (number + 1) p (states_after o (states n p (step p m)))) has

-- where it ends by a host call, an ecalli stands at the place
at_call_by : (p : Program) (m : Moment) (x : ℕ) → (step p m).exit ≡ Some (Host x) → ((nat_lt m.gas (cost p m) ≡ true) ⊎ (nat_lt m.gas (cost p m) ≡ false))
    → op_at p (step p m).state.pc ≡ Ecalli
at_call_by p m x has (inl short) =
    let out : (step p m).exit ≡ Some OutOfGas = ap (λ (k : Moment). k.exit) (step-short p m short) in absurd (cc (has, out))
at_call_by p m x has (inr enough) =
    let paid = step-paid p m enough in
    let calls : (effect p m.state).exit ≡ Some (Host x) = sym (ap (λ (k : Moment). k.exit) paid) ∙ has in
    let here : (step p m).state.pc ≡ m.state.pc = ap (λ (k : Moment). k.state.pc) paid ∙ stays_at p m.state x calls in
    ap (op_at p) here ∙ ecalli_at p m.state x calls

reached_at_call_by : (n : ℕ) (p : Program) (m : Moment) (x : ℕ) (o : Option Exit) → (step p m).exit ≡ o
    → ((step p m).exit ≡ None → (reached n p (step p m)).exit ≡ Some (Host x) → op_at p (reached n p (step p m)).state.pc ≡ Ecalli)
    → (reached n p (step p m)).exit ≡ Some (Host x) → op_at p (reached n p (step p m)).state.pc ≡ Ecalli
reached_at_call_by n p m x None is later has = later is has
reached_at_call_by n p m x (Some e) is later has =
    let end : reached n p (step p m) ≡ step p m = reached-ended n p (step p m) e is in
    ap (λ (k : Moment). op_at p k.state.pc) end
    ∙ at_call_by p m x (sym (ap (λ (k : Moment). k.exit) end) ∙ has) (true_or_false (nat_lt m.gas (cost p m)))

pub reached_at_call : (n : ℕ) (p : Program) (m : Moment) (x : ℕ) → m.exit ≡ None → (reached n p m).exit ≡ Some (Host x) → op_at p (reached n p m).state.pc ≡ Ecalli
unfolding reached
reached_at_call zero p m x going has = absurd (cc (going, has))
reached_at_call (suc n) p m x going has =
    let on : reached n p (followed p m.exit m) ≡ reached n p (step p m) = ap (λ o. reached n p (followed p o m)) going in
    ap (λ (k : Moment). op_at p k.state.pc) on
    ∙ reached_at_call_by n p m x (step p m).exit refl (reached_at_call n p (step p m) x) (sym (ap (λ (k : Moment). k.exit) on) ∙ has)
