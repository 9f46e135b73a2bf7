-- The units of a run of instructions.
use Rattle.std.proofs.Common.{◌≡◌, ℕ, zero, suc, ◌+◌, ◌%◌, ◌^◌, ◌<◌, ◌≤◌, [], ◌∷◌, ◌++◌, length, length-append, arith, ap, sym, ◌∙◌, refl, subst, inl, inr, Bool, true, false, Option, Some, None}
use Rattle.std.specs.Prelude.{if◌then◌else◌, nat_lt, is_some, ◌||◌}
use Rattle.blob_decode.specs.Program.{Program, op_at}
use Rattle.pvm_step.specs.declared.exit.Exit.{Exit}
use Rattle.pvm_step.specs.declared.exit.Exit.TheVariants.{Halt, Panic, OutOfGas, Fault, Host}
use Rattle.pvm_step.specs.declared.watcher.PaidInstruction.{PaidInstruction}
use Rattle.pvm_step.specs.History.{Moment, cost, step, followed, reached, states_after, states}
use Rattle.pvm_step.specs.Machine.{Machine, moment}
use Rattle.pvm_step.specs.Watched.{instruction_at, paid_at, paid_instructions}
use Rattle.pvm_invoke.specs.declared.stage.Stage.TheVariants.{Runs}
use Rattle.pvm_invoke.specs.Held.{Held}
use Rattle.pvm_invoke.specs.HostCall.{HostEffect}
use Rattle.pvm_invoke.specs.Turns.{Standing, stands, in_moment, stage_after, at_moment, instructed, unit_after, stopped, has_ended, Follows}
use Rattle.pvm_invoke.specs.Invocation.{IsAtCall, HasMoved}
use Rattle.pvm_invoke.proofs.Steps.{step-short, true_or_false, reached-ended, paid-ended, reached_at_call}
use Rattle.pvm_invoke.proofs.Following.{follows-none, follows-more, follows-stop}

-- how many instructions a run of this fuel pays for, numbered from this number on
abbrev pub paid_count : ℕ → ℕ → Program → Moment → ℕ
paid_count number n p m = length (paid_instructions number p (states n p m))

-- with too little gas for the first there is none
none-short : (effect : HostEffect) (k : Machine) (h : Held) → nat_lt k.gas (cost k.program (moment k None)) ≡ true → unit_after effect (stands k h Runs) ≡ None
unfolding unit_after
none-short effect k h short = ap (λ b. if b then None else Some (instructed (stands k h Runs))) short

some-paid : (effect : HostEffect) (k : Machine) (h : Held) → nat_lt k.gas (cost k.program (moment k None)) ≡ false → unit_after effect (stands k h Runs) ≡ Some (instructed (stands k h Runs))
unfolding unit_after
some-paid effect k h enough = ap (λ b. if b then None else Some (instructed (stands k h Runs))) enough

-- the first is at the pc, and the others follow
paid-suc : (number n : ℕ) (p : Program) (m : Moment) → m.exit ≡ None
    → paid_instructions number p (states (suc n) p m) ≡ paid_at number p m ++ paid_instructions (number + 1) p (states n p (step p m))
unfolding states paid_instructions
paid-suc number n p m going = ap (λ o. paid_at number p m ++ paid_instructions (number + 1) p (states_after o (states n p (step p m)))) going

one-short : (number : ℕ) (p : Program) (m : Moment) → nat_lt m.gas (cost p m) ≡ true → m.exit ≡ None → length (paid_at number p m) ≡ 0
one-short number p m short going =
    ap (λ o. length (if is_some o || nat_lt m.gas (cost p m) then [] else instruction_at number p m ∷ [])) going
    ∙ ap (λ b. length (if false || b then [] else instruction_at number p m ∷ [])) short

one-paid : (number : ℕ) (p : Program) (m : Moment) → nat_lt m.gas (cost p m) ≡ false → m.exit ≡ None → length (paid_at number p m) ≡ 1
one-paid number p m enough going =
    ap (λ o. length (if is_some o || nat_lt m.gas (cost p m) then [] else instruction_at number p m ∷ [])) going
    ∙ ap (λ b. length (if false || b then [] else instruction_at number p m ∷ [])) enough

count-suc : (number n : ℕ) (p : Program) (m : Moment) (first : ℕ) → m.exit ≡ None → length (paid_at number p m) ≡ first
    → paid_count number (suc n) p m ≡ first + paid_count (number + 1) n p (step p m)
count-suc number n p m first going is =
    let all : paid_count number (suc n) p m ≡ length (paid_at number p m ++ paid_instructions (number + 1) p (states n p (step p m))) = ap length (paid-suc number n p m going) in
    let both : length (paid_at number p m ++ paid_instructions (number + 1) p (states n p (step p m))) ≡ length (paid_at number p m) + paid_count (number + 1) n p (step p m) = length-append _ _ in
    all ∙ both ∙ ap (λ j. j + paid_count (number + 1) n p (step p m)) is

reached-suc : (n : ℕ) (p : Program) (m : Moment) → m.exit ≡ None → reached (suc n) p m ≡ reached n p (step p m)
unfolding reached
reached-suc n p m going = ap (λ o. reached n p (followed p o m)) going

reached-zero : (p : Program) (m : Moment) → reached 0 p m ≡ m
unfolding reached
reached-zero p m = refl

count-zero : (number : ℕ) (p : Program) (m : Moment) → paid_count number 0 p m ≡ 0
unfolding states paid_instructions
count-zero number p m = refl

short_end : (k : Machine) (h : Held) (n : ℕ) → nat_lt k.gas (cost k.program (moment k None)) ≡ true → at_moment k h (reached (suc n) k.program (moment k None)) ≡ stopped (stands k h Runs)
short_end k h n short =
    let out : (step k.program (moment k None)).exit ≡ Some OutOfGas = ap (λ (m : Moment). m.exit) (step-short k.program (moment k None) short) in
    ap (at_moment k h) (reached-suc n k.program (moment k None) refl ∙ reached-ended n k.program (step k.program (moment k None)) OutOfGas out ∙ step-short k.program (moment k None) short)

-- ---- One instruction more

module _ (effect : HostEffect) (k : Machine) (h : Held) where
  abbrev first : Moment
  first = moment k None

  abbrev from : Standing
  from = stands k h Runs

  -- it cannot be paid
  short_reached : (n : ℕ) → nat_lt k.gas (cost k.program first) ≡ true → at_moment k h (reached (suc n) k.program first) ≡ stopped from
  short_reached n short = short_end k h n short

  short_count : (number n : ℕ) → nat_lt k.gas (cost k.program first) ≡ true → paid_count number (suc n) k.program first ≡ 0
  short_count number n short =
      let out : (step k.program first).exit ≡ Some OutOfGas = ap (λ (m : Moment). m.exit) (step-short k.program first short) in
      let rest : paid_count (number + 1) n k.program (step k.program first) ≡ 0 = ap length (paid-ended n (number + 1) k.program (step k.program first) OutOfGas out) in
      omega (arith, count-suc number n k.program first 0 refl (one-short number k.program first short refl), rest)

  -- it ends the run, or calls the host
  last_reached : (n : ℕ) (e : Exit) → (step k.program first).exit ≡ Some e → at_moment k h (reached (suc n) k.program first) ≡ instructed from
  last_reached n e ends = ap (at_moment k h) (reached-suc n k.program first refl ∙ reached-ended n k.program (step k.program first) e ends)

  last_count : (number n : ℕ) (e : Exit) → nat_lt k.gas (cost k.program first) ≡ false → (step k.program first).exit ≡ Some e → paid_count number (suc n) k.program first ≡ 1
  last_count number n e enough ends =
      let rest : paid_count (number + 1) n k.program (step k.program first) ≡ 0 = ap length (paid-ended n (number + 1) k.program (step k.program first) e ends) in
      omega (arith, count-suc number n k.program first 1 refl (one-paid number k.program first enough refl), rest)

  -- the run goes on
  abbrev behind : Machine
  behind = in_moment k (step k.program first)

  next_moment : (step k.program first).exit ≡ None → moment behind None ≡ step k.program first
  next_moment going = ap (moment behind) (sym going)

  next_unit : nat_lt k.gas (cost k.program first) ≡ false → (step k.program first).exit ≡ None → unit_after effect from ≡ Some (stands behind h Runs)
  next_unit enough going = some-paid effect k h enough ∙ ap (λ o. Some (stands behind h (stage_after o))) going

  abbrev Runs_so : ℕ → ℕ → Machine → Type 0
  Runs_so number n m = Follows effect n (paid_count number n m.program (moment m None)) (stands m h Runs) (at_moment m h (reached n m.program (moment m None)))

  next_follows : (number n : ℕ) → nat_lt k.gas (cost k.program first) ≡ false → (step k.program first).exit ≡ None → Runs_so (number + 1) n behind → Runs_so number (suc n) k
  next_follows number n enough going later =
      let on : Follows effect n (paid_count (number + 1) n k.program (step k.program first)) (stands behind h Runs) (at_moment k h (reached n k.program (step k.program first))) =
      subst (λ (m : Moment). Follows effect n (paid_count (number + 1) n k.program m) (stands behind h Runs) (at_moment k h (reached n k.program m))) (next_moment going) later in
      let all : Follows effect (suc n) (suc (paid_count (number + 1) n k.program (step k.program first))) from (at_moment k h (reached n k.program (step k.program first))) =
      follows-more effect n (paid_count (number + 1) n k.program (step k.program first)) from (stands behind h Runs) _ (next_unit enough going) on in
      let count : suc (paid_count (number + 1) n k.program (step k.program first)) ≡ paid_count number (suc n) k.program first =
      omega (arith, count-suc number n k.program first 1 refl (one-paid number k.program first enough refl)) in
      subst (λ j. Follows effect (suc n) j from (at_moment k h (reached (suc n) k.program first))) count
      (subst (λ (m : Moment). Follows effect (suc n) (suc (paid_count (number + 1) n k.program (step k.program first))) from (at_moment k h m)) (sym (reached-suc n k.program first refl)) all)

  last_follows : (number n : ℕ) (e : Exit) → nat_lt k.gas (cost k.program first) ≡ false → (step k.program first).exit ≡ Some e → Runs_so number (suc n) k
  last_follows number n e enough ends =
      subst (λ j. Follows effect (suc n) j from (at_moment k h (reached (suc n) k.program first))) (sym (last_count number n e enough ends))
      (subst (Follows effect (suc n) 1 from) (sym (last_reached n e ends))
      (follows-more effect n 0 from (instructed from) (instructed from) (some-paid effect k h enough) (follows-none effect n (instructed from))))

  short_follows : (number n : ℕ) → nat_lt k.gas (cost k.program first) ≡ true → Runs_so number (suc n) k
  short_follows number n short =
      subst (λ j. Follows effect (suc n) j from (at_moment k h (reached (suc n) k.program first))) (sym (short_count number n short))
      (subst (Follows effect (suc n) 0 from) (sym (short_reached n short)) (follows-stop effect n from (none-short effect k h short)))

  paid_follows : (number n : ℕ) (o : Option Exit) → nat_lt k.gas (cost k.program first) ≡ false → (step k.program first).exit ≡ o → Runs_so (number + 1) n behind → Runs_so number (suc n) k
  paid_follows number n None enough is later = next_follows number n enough is later
  paid_follows number n (Some e) enough is later = last_follows number n e enough is

  more_follows : (number n : ℕ) → Runs_so (number + 1) n behind → Runs_so number (suc n) k
  more_follows number n later = elim (true_or_false (nat_lt k.gas (cost k.program first))) [
    | inl short ↦ short_follows number n short
    | inr enough ↦ paid_follows number n (step k.program first).exit enough refl later
  ]

  none_follows : (number : ℕ) → Runs_so number 0 k
  none_follows number =
      subst (λ j. Follows effect 0 j from (at_moment k h (reached 0 k.program first))) (sym (count-zero number k.program first))
      (subst (λ (m : Moment). Follows effect 0 0 from (at_moment k h m)) (sym (reached-zero k.program first)) (follows-none effect 0 from))

-- a run of instructions makes units, each of them one instruction that is paid
pub run_follows : (n number : ℕ) (effect : HostEffect) (k : Machine) (h : Held)
    → Follows effect n (paid_count number n k.program (moment k None)) (stands k h Runs) (at_moment k h (reached n k.program (moment k None)))
run_follows zero number effect k h = none_follows effect k h number
run_follows (suc n) number effect k h = more_follows effect k h number n (run_follows n (number + 1) effect (in_moment k (step k.program (moment k None))) h)

-- it makes one, or ends
short_exit : (n : ℕ) (p : Program) (m : Moment) → m.exit ≡ None → nat_lt m.gas (cost p m) ≡ true → (reached (suc n) p m).exit ≡ Some OutOfGas
short_exit n p m going short =
    let out : (step p m).exit ≡ Some OutOfGas = ap (λ (k : Moment). k.exit) (step-short p m short) in
    ap (λ (k : Moment). k.exit) (reached-suc n p m going ∙ reached-ended n p (step p m) OutOfGas out) ∙ out

pub run_moves : (n number : ℕ) (p : Program) (m : Moment) → m.exit ≡ None → 0 < n → HasMoved (paid_count number n p m) (stage_after (reached n p m).exit)
run_moves zero number p m going some = absurd (omega (arith, some))
run_moves (suc n) number p m going some = elim (true_or_false (nat_lt m.gas (cost p m))) [
  | inl short ↦ inr (ap (λ o. has_ended (stage_after o)) (short_exit n p m going short))
  | inr enough ↦ inl (omega (arith, count-suc number n p m 1 going (one-paid number p m enough going)))
]

-- no more are paid for than there is fuel
one_or_none : (b : Bool) (x : PaidInstruction) → length (if b then [] else x ∷ []) ≤ 1
one_or_none true x = omega arith
one_or_none false x = omega arith

few_by : (n number : ℕ) (p : Program) (m : Moment) (o : Option Exit) → m.exit ≡ o → paid_count (number + 1) n p (step p m) ≤ n → paid_count number (suc n) p m ≤ suc n
few_by n number p m None is rest =
    omega (arith, count-suc number n p m (length (paid_at number p m)) is refl, one_or_none (is_some m.exit || nat_lt m.gas (cost p m)) (instruction_at number p m), rest)
few_by n number p m (Some e) is rest = let none : paid_count number (suc n) p m ≡ 0 = ap length (paid-ended (suc n) number p m e is) in omega (arith, none)

pub paid_few : (n number : ℕ) (p : Program) (m : Moment) → paid_count number n p m ≤ n
paid_few zero number p m = omega (arith, count-zero number p m)
paid_few (suc n) number p m = few_by n number p m m.exit refl (paid_few n (number + 1) p (step p m))

-- ---- What the code has of it

pub same_standing : (k m : Machine) (h : Held) (o : Option Exit) (there : Moment) → m.program ≡ k.program → moment m o ≡ there → stands m h (stage_after o) ≡ at_moment k h there
same_standing k m h o there program is =
    ap (at_moment m h) is
    ∙ ap (λ (p : Program). stands (record { program = p; pc = there.state.pc; registers = there.state.registers; memory = there.state.memory; heap = there.state.heap; gas = there.gas; costs = there.costs }) h (stage_after there.exit)) program

pub at_call : (k m : Machine) (n : ℕ) (o : Option Exit) → m.program ≡ k.program → moment m o ≡ reached n k.program (moment k None) → IsAtCall m (stage_after o)
at_call k m n None program is = tt
at_call k m n (Some Halt) program is = tt
at_call k m n (Some Panic) program is = tt
at_call k m n (Some OutOfGas) program is = tt
at_call k m n (Some (Fault address)) program is = tt
at_call k m n (Some (Host number)) program is =
    ap (λ p. op_at p m.pc) program
    ∙ ap (λ (there : Moment). op_at k.program there.state.pc) is
    ∙ reached_at_call n k.program (moment k None) number refl (sym (ap (λ (there : Moment). there.exit) is))

pub counted : (fuel made count : ℕ) → count ≤ fuel → fuel < 2 ^ 64 → made ≡ count % 2 ^ 64 → made ≡ count
counted fuel made count few fits is = omega arith
