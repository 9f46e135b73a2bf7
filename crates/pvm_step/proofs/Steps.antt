-- One step: with enough gas, and with too little.
use Rattle.std.proofs.Common.{◌≡◌, ℕ, ◌+◌, ◌-◌, ◌<◌, ◌≤◌, arith, ap, sym, ◌∙◌, refl, inl, inr, ◌⊎◌, Option, Some}
use Rattle.std.specs.Prelude.{if◌then◌else◌}
use Rattle.std.proofs.lemmas.Bool.{lt-ltb, le-ltb, cases_lt}
use Rattle.gas_ledger.specs.Schedule.{Schedule, IsSchedule, plain, form_cost}
use Rattle.gas_ledger.specs.CostLaws.{form_cost-paid}
use Rattle.pvm_isa.specs.declared.op.Op.{Op}
use Rattle.pvm_isa.specs.declared.form.Form.{Form}
use Rattle.pvm_isa.specs.declared.form.Form.TheVariants.{F1, F2, F3, F4, F5, F6, F7, F8, F9, F10, F11, F12, F13}
use Rattle.pvm_isa.specs.Opcodes.{form_of}
use Rattle.blob_decode.specs.Program.{Program, op_at}
use Rattle.pvm_step.specs.declared.exit.Exit.{Exit}
use Rattle.pvm_step.specs.declared.exit.Exit.TheVariants.{OutOfGas}
use Rattle.pvm_step.specs.Effect.{MachineState, effect}
use Rattle.pvm_step.specs.History.{Moment, form_number, cost_of, cost, step, gain}

acted : Program → Moment → Moment
acted p m = record m { state = (effect p m.state).state; gas = m.gas - cost p m; exit = (effect p m.state).exit }

short : Moment → Moment
short m = record m { gas = 0; exit = Some OutOfGas }

-- with enough gas it takes the cost for what it does
pub step-paid : (p : Program) (m : Moment) → cost p m ≤ m.gas → step p m ≡ record m { state = (effect p m.state).state; gas = m.gas - cost p m; exit = (effect p m.state).exit }
unfolding step acted short
step-paid p m enough = ap (λ b. if b then short m else acted p m) (le-ltb m.gas (cost p m) enough)

-- with too little it is out of it
pub step-short : (p : Program) (m : Moment) → m.gas < cost p m → step p m ≡ record m { gas = 0; exit = Some OutOfGas }
unfolding step acted short
step-short p m less = ap (λ b. if b then short m else acted p m) (lt-ltb m.gas (cost p m) less)

-- by what the code counts
pub step-acts : (p : Program) (m : Moment) (t : MachineState) (exit : Option Exit) (c left : ℕ) → c ≡ cost p m → c ≤ m.gas → left ≡ m.gas - c → record { state = t; exit = exit } ≡ effect p m.state
    → record { state = t; gas = left; costs = m.costs; exit = exit } ≡ step p m
step-acts p m t exit c left is enough counts acts =
    let same : left ≡ m.gas - cost p m = omega arith in
    (λ i. record { state = (acts i).state; gas = same i; costs = m.costs; exit = (acts i).exit }) ∙ sym (step-paid p m (omega arith))

pub step-without : (p : Program) (m : Moment) (c : ℕ) → c ≡ cost p m → m.gas < c → record { state = m.state; gas = 0; costs = m.costs; exit = Some OutOfGas } ≡ step p m
step-without p m c is less = sym (step-short p m (omega arith))

pub enough_or_short : (p : Program) (m : Moment) → (cost p m ≤ m.gas) ⊎ (m.gas < cost p m)
enough_or_short p m = elim (cases_lt m.gas (cost p m)) [ inl less ↦ inr less | inr more ↦ inl (omega arith) ]

-- a step keeps the schedule, and gives no gas
pub step-costs : (p : Program) (m : Moment) → (step p m).costs ≡ m.costs
step-costs p m = elim (enough_or_short p m) [
  | inl enough ↦ ap (λ (n : Moment). n.costs) (step-paid p m enough)
  | inr less ↦ ap (λ (n : Moment). n.costs) (step-short p m less)
]

pub step-gas : (p : Program) (m : Moment) → (step p m).gas ≤ m.gas
step-gas p m = elim (enough_or_short p m) [
  | inl enough ↦ let left : (step p m).gas ≡ m.gas - cost p m = ap (λ (n : Moment). n.gas) (step-paid p m enough) in omega arith
  | inr less ↦ let left : (step p m).gas ≡ 0 = ap (λ (n : Moment). n.gas) (step-short p m less) in omega arith
]

-- where a step did not end out of gas, it paid its cost
pub step-charged : (p : Program) (m : Moment) → ((step p m).exit ≡ Some OutOfGas → ⊥) → (cost p m ≤ m.gas) × ((step p m).gas ≡ m.gas - cost p m)
step-charged p m not = elim (enough_or_short p m) [
  | inl enough ↦ (enough, ap (λ (n : Moment). n.gas) (step-paid p m enough))
  | inr less ↦ absurd (not (ap (λ (n : Moment). n.exit) (step-short p m less)))
]

-- each form is numbered 1 to 13
form_number-low : (f : Form) → 1 ≤ form_number f
form_number-low F1 = omega arith
form_number-low F2 = omega arith
form_number-low F3 = omega arith
form_number-low F4 = omega arith
form_number-low F5 = omega arith
form_number-low F6 = omega arith
form_number-low F7 = omega arith
form_number-low F8 = omega arith
form_number-low F9 = omega arith
form_number-low F10 = omega arith
form_number-low F11 = omega arith
form_number-low F12 = omega arith
form_number-low F13 = omega arith

form_number-high : (f : Form) → form_number f ≤ 13
form_number-high F1 = omega arith
form_number-high F2 = omega arith
form_number-high F3 = omega arith
form_number-high F4 = omega arith
form_number-high F5 = omega arith
form_number-high F6 = omega arith
form_number-high F7 = omega arith
form_number-high F8 = omega arith
form_number-high F9 = omega arith
form_number-high F10 = omega arith
form_number-high F11 = omega arith
form_number-high F12 = omega arith
form_number-high F13 = omega arith

-- and each state costs at least 1
pub cost-paid : (p : Program) (m : Moment) → IsSchedule m.costs → 1 ≤ cost p m
unfolding cost_of
cost-paid p m is = form_cost-paid m.costs (form_number (form_of (op_at p m.state.pc))) is (form_number-low (form_of (op_at p m.state.pc))) (form_number-high (form_of (op_at p m.state.pc)))

plain_form : (f : Form) → form_cost plain (form_number f) ≡ 1
plain_form F1 = refl
plain_form F2 = refl
plain_form F3 = refl
plain_form F4 = refl
plain_form F5 = refl
plain_form F6 = refl
plain_form F7 = refl
plain_form F8 = refl
plain_form F9 = refl
plain_form F10 = refl
plain_form F11 = refl
plain_form F12 = refl
plain_form F13 = refl

-- where each form costs 1, so does each opcode
pub cost_of-plain : (costs : Schedule) (op : Op) → costs.forms ≡ plain.forms → cost_of costs op ≡ 1
unfolding cost_of
cost_of-plain costs op is = ap (λ forms. form_cost (record costs { forms = forms }) (form_number (form_of op))) is ∙ plain_form (form_of op)

-- with more gas a step that was paid is the same
pub step-gain : (p : Program) (m : Moment) (more : ℕ) → cost p m ≤ m.gas → step p (gain more m) ≡ gain more (step p m)
step-gain p m more enough =
    let left : m.gas + more - cost p m ≡ m.gas - cost p m + more = omega arith in
    step-paid p (gain more m) (omega arith)
    ∙ ap (λ g. record m { state = (effect p m.state).state; gas = g; exit = (effect p m.state).exit }) left
    ∙ sym (ap (gain more) (step-paid p m enough))
