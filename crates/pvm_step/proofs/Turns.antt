-- A turn of the loop of a run: one instruction more, the last one, or one that is not paid.
use Rattle.std.proofs.Common.{◌≡◌, ℕ, zero, suc, ◌+◌, ◌-◌, ◌<◌, ◌≤◌, List, [], ◌∷◌, ◌++◌, append-nil, ap, sym, ◌∙◌, refl, arith, Option, Some, None, Result, Ok, Err}
use Rattle.std.specs.Prelude.{IfOk, OnErr}
use Rattle.blob_decode.specs.Program.{Program, op_at}
use Rattle.pvm_step.specs.declared.exit.Exit.{Exit}
use Rattle.pvm_step.specs.declared.exit.Exit.TheVariants.{OutOfGas}
use Rattle.pvm_step.specs.Effect.{effect}
use Rattle.pvm_step.specs.History.{Moment, cost_of, step, reached, states}
use Rattle.pvm_step.specs.Machine.{Machine, ChangesStateAlone, state_of, after_of, moment, with_gas}
use Rattle.pvm_step.specs.declared.watcher.PaidInstruction.{PaidInstruction}
use Rattle.pvm_step.specs.Watched.{instruction_at, paid_at, paid_instructions}
use Rattle.pvm_step.proofs.Steps.{step-acts, step-without}
use Rattle.pvm_step.proofs.Watched.{paid_at-paid, paid_at-short, paid-more, paid-to_end}
use Rattle.pvm_step.proofs.Reached.{reached-step, reached-none, made-more, made-last}

pub through : {a b c : Machine} → ChangesStateAlone a b → ChangesStateAlone b c → ChangesStateAlone a c
through first second = record { program = second.program ∙ first.program; gas = second.gas ∙ first.gas; costs = second.costs ∙ first.costs }

pub none_changed : (m : Machine) → ChangesStateAlone m m
none_changed m = record { program = refl; gas = refl; costs = refl }

pub turn : (was now : Machine) (left c : ℕ) (exit : Option Exit) → ChangesStateAlone was now → c ≡ cost_of was.costs (op_at was.program was.pc) → c ≤ left
    → after_of now exit ≡ effect was.program (state_of was) → with_gas now (left - c) exit ≡ step was.program (with_gas was left None)
turn was now left c exit rest is enough acts =
    ap (λ costs. record { state = state_of now; gas = left - c; costs = costs; exit = exit }) rest.costs
    ∙ step-acts was.program (with_gas was left None) (state_of now) exit c (left - c) is enough refl acts

-- before the turn so many instructions were made of those of the run from m
module _ (p : Program) (m : Moment) (n : ℕ) (was : Machine) (left c : ℕ) (same : was.program ≡ p) (here : with_gas was left None ≡ reached n p m)
    (is : c ≡ cost_of was.costs (op_at was.program was.pc)) where
  pub turn-next : (now : Machine) (exit : Option Exit) → ChangesStateAlone was now → c ≤ left → after_of now exit ≡ effect was.program (state_of was)
      → with_gas now (left - c) exit ≡ reached (n + 1) p m
  turn-next now exit rest enough acts =
      made-more p m n (with_gas was left None) (with_gas now (left - c) exit) refl here
      (turn was now left c exit rest is enough acts ∙ ap (λ q. step q (with_gas was left None)) same)

  -- what the watcher was told up to there, once it is told this
  pub turn-told : (made : PaidInstruction) → made.number ≡ n + 1 → made.pc ≡ was.pc → made.op ≡ op_at was.program was.pc → made.gas ≡ left - c → c ≤ left
      → paid_instructions 1 p (states n p m) ++ (made ∷ []) ≡ paid_instructions 1 p (states (n + 1) p m)
  turn-told made number place op gas enough =
      let left_is : made.gas ≡ left - cost_of was.costs (op_at was.program was.pc) = gas ∙ ap (λ k. left - k) is in
      let one : made ≡ instruction_at (n + 1) was.program (with_gas was left None) = λ i. record { number = number i; pc = place i; op = op i; gas = left_is i } in
      sym (paid-more n p m (with_gas was left None) here
      ∙ ap (λ q. paid_instructions 1 p (states n p m) ++ paid_at (n + 1) q (with_gas was left None)) (sym same)
      ∙ ap (λ (l : List PaidInstruction). paid_instructions 1 p (states n p m) ++ l) (paid_at-paid (n + 1) was.program (with_gas was left None) refl (omega (arith, is, enough)) ∙ ap (λ (k : PaidInstruction). k ∷ []) (sym one)))

  pub turn-short_told : (fuel : ℕ) → n < fuel → left < c → paid_instructions 1 p (states n p m) ≡ paid_instructions 1 p (states fuel p m)
  turn-short_told fuel less short =
      let unpaid : left < cost_of was.costs (op_at was.program was.pc) = omega (arith, is, short) in
      let ends : with_gas was 0 (Some OutOfGas) ≡ reached (n + 1) p m =
      made-more p m n (with_gas was left None) (with_gas was 0 (Some OutOfGas)) refl here
      (step-without was.program (with_gas was left None) c is short ∙ ap (λ q. step q (with_gas was left None)) same) in
      let none : paid_instructions 1 p (states (n + 1) p m) ≡ paid_instructions 1 p (states n p m) =
      paid-more n p m (with_gas was left None) here
      ∙ ap (λ q. paid_instructions 1 p (states n p m) ++ paid_at (n + 1) q (with_gas was left None)) (sym same)
      ∙ ap (λ (l : List PaidInstruction). paid_instructions 1 p (states n p m) ++ l) (paid_at-short (n + 1) was.program (with_gas was left None) refl unpaid)
      ∙ append-nil (paid_instructions 1 p (states n p m)) in
      sym none ∙ paid-to_end 1 (n + 1) fuel p m OutOfGas (omega (arith, less)) (ap (λ (k : Moment). k.exit) (sym ends))

  pub turn-last : (now : Machine) (fuel : ℕ) (e : Exit) → n < fuel → ChangesStateAlone was now → c ≤ left → after_of now (Some e) ≡ effect was.program (state_of was)
      → with_gas now (left - c) (Some e) ≡ reached fuel p m
  turn-last now fuel e less rest enough acts =
      made-last p m n fuel (with_gas was left None) (with_gas now (left - c) (Some e)) e less refl here refl
      (turn was now left c (Some e) rest is enough acts ∙ ap (λ q. step q (with_gas was left None)) same)

  pub turn-short : (fuel : ℕ) → n < fuel → left < c → with_gas was 0 (Some OutOfGas) ≡ reached fuel p m
  turn-short fuel less short =
      made-last p m n fuel (with_gas was left None) (with_gas was 0 (Some OutOfGas)) OutOfGas less refl here refl
      (step-without was.program (with_gas was left None) c is short ∙ ap (λ q. step q (with_gas was left None)) same)

-- a run of one instruction is a step, and one of none leaves the machine as it was
pub one_step : (p : Program) (m : Moment) → m.exit ≡ None → reached 1 p m ≡ step p m
one_step p m going = reached-step 0 p m going ∙ reached-none p (step p m)

pub none_made : (was now : Machine) (left n : ℕ) → n < 1 → ChangesStateAlone was now → with_gas now left None ≡ reached n was.program (moment was None) → record now { gas = left } ≡ was
none_made was now left zero less rest is =
    let same : with_gas now left None ≡ moment was None = is ∙ reached-none was.program (moment was None) in
    λ i. record {
      program = rest.program i;
      pc = (same i).state.pc;
      registers = (same i).state.registers;
      memory = (same i).state.memory;
      heap = (same i).state.heap;
      gas = (same i).gas;
      costs = (same i).costs;
    }
none_made was now left (suc n) less rest is = absurd (omega (arith, less))

-- what holds of a result holds of it so too
pub on_ok : {A E : Type 0} (P Q : A → Type 0) (r : Result A E) → ((a : A) → P a → Q a) → IfOk r P → IfOk r Q
on_ok P Q (Ok a) so h = so a h
on_ok P Q (Err e) so h = h

pub on_err : {A E : Type 0} (P Q R : Type 0) (r : Result A E) → (P → Q → R) → OnErr r P → OnErr r Q → OnErr r R
on_err P Q R (Ok a) so h k = h
on_err P Q R (Err e) so h k = so h k
