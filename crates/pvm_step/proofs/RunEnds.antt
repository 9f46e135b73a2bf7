-- The end of a run that had as much fuel as gas.
use Rattle.std.proofs.Common.{◌≡◌, ℕ, ◌+◌, ◌<◌, ◌≤◌, List, ◌++◌, append-nil, ap, sym, ◌∙◌, refl, arith, Some, None}
use Rattle.gas_ledger.specs.Schedule.{IsSchedule}
use Rattle.blob_decode.specs.Program.{Program}
use Rattle.pvm_step.specs.declared.exit.Exit.{Exit}
use Rattle.pvm_step.specs.declared.exit.Exit.TheVariants.{OutOfGas}
use Rattle.pvm_step.specs.declared.watcher.PaidInstruction.{PaidInstruction}
use Rattle.pvm_step.specs.History.{Moment, cost, step, reached, answer, states, history}
use Rattle.pvm_step.specs.Watched.{paid_instructions}
use Rattle.pvm_step.proofs.Steps.{step-short, cost-paid}
use Rattle.pvm_step.proofs.Reached.{made-more, stays_ended, each_costs, reached-answer, reached-schedule}
use Rattle.pvm_step.proofs.Watched.{paid-to_end, paid-all, paid-more, paid_at-short}

module _ (n : ℕ) (p : Program) (m : Moment) (is : IsSchedule m.costs) (all : m.gas ≤ n) where
  -- where it ended
  pub ended-answer : (e : Exit) → (reached n p m).exit ≡ Some e → reached n p m ≡ answer p m
  ended-answer e has = sym (stays_ended n 1 p m e has) ∙ reached-answer (n + 1) p m is (omega (arith, all))

  pub ended-told : (e : Exit) → (reached n p m).exit ≡ Some e → paid_instructions 1 p (states n p m) ≡ paid_instructions 1 p (history p m)
  ended-told e has = paid-to_end 1 n (n + 1) p m e (omega arith) has ∙ paid-all (n + 1) p m is (omega (arith, all))

  -- where it did not, no gas is left, and the next step finds none
  spent : (reached n p m).exit ≡ None → (reached n p m).gas ≡ 0
  spent going = omega (arith, each_costs n p m is going, all)

  short : (reached n p m).exit ≡ None → (reached n p m).gas < cost p (reached n p m)
  short going = omega (arith, spent going, cost-paid p (reached n p m) (reached-schedule n p m is))

  pub paused-answer : (reached n p m).exit ≡ None → record (reached n p m) { gas = 0; exit = Some OutOfGas } ≡ answer p m
  paused-answer going =
      sym (step-short p (reached n p m) (short going))
      ∙ made-more p m n (reached n p m) (step p (reached n p m)) going refl refl
      ∙ reached-answer (n + 1) p m is (omega (arith, all))

  pub paused-gas : (h : Moment) → h ≡ reached n p m → h.exit ≡ None → record h { exit = Some OutOfGas } ≡ answer p m
  paused-gas h here going =
      let at : (reached n p m).exit ≡ None = ap (λ (k : Moment). k.exit) (sym here) ∙ going in
      let none : h.gas ≡ 0 = ap (λ (k : Moment). k.gas) here ∙ spent at in
      ap (λ (g : ℕ). record h { gas = g; exit = Some OutOfGas }) none
      ∙ ap (λ (k : Moment). record k { gas = 0; exit = Some OutOfGas }) here
      ∙ paused-answer at

  pub paused-told : (reached n p m).exit ≡ None → paid_instructions 1 p (states n p m) ≡ paid_instructions 1 p (history p m)
  paused-told going =
      sym (append-nil (paid_instructions 1 p (states n p m)))
      ∙ ap (λ (l : List PaidInstruction). paid_instructions 1 p (states n p m) ++ l) (sym (paid_at-short (n + 1) p (reached n p m) going (short going)))
      ∙ sym (paid-more n p m (reached n p m) refl)
      ∙ paid-all (n + 1) p m is (omega (arith, all))
