-- The unit of a host call.
use Rattle.std.proofs.Common.{◌≡◌, ℕ, ◌<◌, ◌≤◌, length, List, ◌∷◌, ap, sym, ◌∙◌, subst, Bool, true, false, inl, inr, arith, Some, None, Result, Ok, Err}
use Rattle.std.specs.Prelude.{if◌then◌else◌, ◌↔◌, IsTrue, IfOk}
use Rattle.std.proofs.lemmas.Bool.{lt-ltb, le-ltb, cases_lt}
use Rattle.pvm_step.specs.declared.exit.Exit.TheVariants.{OutOfGas}
use Rattle.pvm_step.specs.declared.exit.HostStep.TheVariants as answers
use Rattle.pvm_step.specs.Machine.{Machine}
use Rattle.pvm_invoke.specs.declared.stage.Stage.TheVariants.{Awaits, Ended}
use Rattle.pvm_invoke.specs.Held.{Held}
use Rattle.pvm_invoke.specs.HostCall.{Called, HostEffect, IsHostEffect, IsHostCall}
use Rattle.pvm_invoke.specs.Turns.{Standing, stands, surcharge, charged, after_call, unit_after, out_of_gas, IsTurn}
use Rattle.pvm_invoke.proofs.Following.{advanced-stop, units-stop, advanced-more, units-more, advanced-none, units-none}

module _ (effect : HostEffect) (k : Machine) (h : Held) (number : ℕ) where
  abbrev awaiting : Standing
  awaiting = stands k h (Awaits number)

  pub call_refused : k.gas < surcharge k.costs number → unit_after effect awaiting ≡ None
  unfolding unit_after
  call_refused less = ap (λ b. if b then None else after_call (effect h number (charged k (surcharge k.costs number))) (effect h number (charged k (surcharge k.costs number))).answer) (lt-ltb k.gas (surcharge k.costs number) less)

  pub call_made : (c : Called) → surcharge k.costs number ≤ k.gas → effect h number (charged k (surcharge k.costs number)) ≡ c → unit_after effect awaiting ≡ after_call c c.answer
  unfolding unit_after
  call_made c enough is =
      ap (λ b. if b then None else after_call (effect h number (charged k (surcharge k.costs number))) (effect h number (charged k (surcharge k.costs number))).answer) (le-ltb k.gas (surcharge k.costs number) enough)
      ∙ ap (λ (d : Called). after_call d d.answer) is

  -- no unit
  pub stop_turn : (t : Standing) (made : ℕ) → unit_after effect awaiting ≡ None → t ≡ out_of_gas awaiting → made ≡ 0 → IsTurn effect 1 made awaiting t
  stop_turn t made none is count = record {
    here = is ∙ sym (advanced-stop 0 effect awaiting none);
    count = count ∙ sym (ap length (units-stop 0 effect awaiting none));
  }

  -- one unit
  pub unit_turn : (t : Standing) (made : ℕ) → unit_after effect awaiting ≡ Some t → made ≡ 1 → IsTurn effect 1 made awaiting t
  unit_turn t made some count = record {
    here = sym (advanced-more 0 effect awaiting t some ∙ advanced-none effect t);
    count = count ∙ sym (ap length (units-more 0 effect awaiting t some) ∙ ap (λ (us : List Standing). length (t ∷ us)) (units-none effect t));
  }

  -- a call that is not paid has done nothing else
  pub unpaid_left : (held : Held) (m : Machine) → IsHostEffect effect → effect h number (charged k (surcharge k.costs number)) ≡ record { answer = answers.Unpaid; held = held; machine = m }
      → stands m held (Ended OutOfGas) ≡ out_of_gas awaiting
  unpaid_left held m lawful is =
      let before : Machine = charged k (surcharge k.costs number) in
      let call : IsHostCall h before (record { answer = answers.Unpaid; held = held; machine = m }) = subst (IsHostCall h before) is (lawful h number before) in
      ap (λ x. stands m x (Ended OutOfGas)) call.answered.0 ∙ ap (λ x. stands x h (Ended OutOfGas)) call.answered.1

-- what a test of gas tells
pub refused : (b : Bool) (n gas : ℕ) → b ≡ false → (IsTrue b ↔ (n ≤ gas)) → gas < n
refused b n gas is told = elim (cases_lt gas n) [
  | inl less ↦ less
  | inr more ↦ let yes : b ≡ true = told.1 (omega arith) in absurd (cc (is, yes))
]

-- what holds of an answer holds of what is weaker
pub weaker : {A E : Type 0} (P Q : A → Type 0) (r : Result A E) → ((x : A) → P x → Q x) → IfOk r P → IfOk r Q
weaker P Q (Ok x) by h = by x h
weaker P Q (Err e) by h = tt
