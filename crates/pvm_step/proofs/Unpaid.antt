-- A run ends out of gas only where its steps cost more than its gas.
use Rattle.std.proofs.Common.{◌≡◌, ℕ, ◌-◌, ◌<◌, ◌≤◌, List, [], ◌∷◌, arith, ap, sym, ◌∙◌, refl, inl, inr, Bool, true, false, Option, Some, None, Result, Ok, Err}
use Rattle.std.specs.Prelude.{if◌then◌else◌}
use Rattle.pvm_isa.specs.declared.op.Op.{Op}
use Rattle.pvm_isa.specs.declared.op.Op.TheVariants.{Trap}
use Rattle.pvm_isa.specs.declared.arguments.Args.{Args}
use Rattle.blob_decode.specs.Program.{Program, Landing, to, halts, nowhere, jump_to, jump_through, op_at}
use Rattle.page_rights.specs.declared.rights.Rights.TheVariants as may
use Rattle.paged_memory.specs.declared.access.Access.{Access}
use Rattle.paged_memory.specs.declared.access.Access.TheVariants as access
use Rattle.byte_numbers.specs.Numbers.{little_endian}
use Rattle.paged_memory.specs.PageMap.{Memory, loaded, refusal, put_bytes}
use Rattle.pvm_alu.specs.Alu.{loaded_bytes}
use Rattle.pvm_step.specs.declared.exit.Exit.{Exit}
use Rattle.pvm_step.specs.declared.exit.Exit.TheVariants.{Halt, Panic, OutOfGas, Fault, Host}
use Rattle.pvm_step.specs.Effect.{MachineState, Act, Nothing, Exits, Sets, Loads, Stores, Jumps, Branches, JumpsThrough, SetsAndJumps, SetsAndJumpsThrough, Moves, Grows, line, after, act_of, outcome, effect, loads, stores, lands, goes, with_register}
use Rattle.pvm_step.specs.History.{Moment, cost, step, IsHistory, last_state, all_but_last, total_cost}
use Rattle.pvm_step.proofs.Steps.{step-paid, step-charged, enough_or_short}
use Rattle.pvm_step.proofs.Histories.{none_has, first_is}

-- ---- No instruction ends a run out of gas

is_out : Exit → Bool
is_out Halt = false
is_out Panic = false
is_out OutOfGas = true
is_out (Fault page) = false
is_out (Host number) = false

abbrev ends_out : Option Exit → Bool
ends_out None = false
ends_out (Some exit) = is_out exit

abbrev act_out : Act → Bool
act_out (Exits exit) = is_out exit
act_out act = false

line-out : (op : Op) (a : Args) (s : MachineState) → act_out (line op a s) ≡ false
unfolding line is_out
line-out Trap a s = refl
line-out _ a s = refl

loads-out : (p : Program) (s : MachineState) (r : ℕ) (op : Op) (x : Result ℕ Access) → ends_out (loads p s r op x).exit ≡ false
unfolding is_out
loads-out p s r op (Ok raw) = refl
loads-out p s r op (Err access.Low) = refl
loads-out p s r op (Err (access.Fault page)) = refl

stores-out : (p : Program) (s : MachineState) (m : Memory) (o : Option Access) → ends_out (stores p s m o).exit ≡ false
unfolding is_out
stores-out p s m None = refl
stores-out p s m (Some access.Low) = refl
stores-out p s m (Some (access.Fault page)) = refl

lands-out : (s : MachineState) (l : Landing) → ends_out (lands s l).exit ≡ false
unfolding is_out
lands-out s (to place) = refl
lands-out s halts = refl
lands-out s nowhere = refl

branches-out : (taken : Bool) (s : MachineState) (l : Landing) (place : ℕ) → ends_out (if taken then lands s l else goes s place).exit ≡ false
branches-out true s l place = lands-out s l
branches-out false s l place = refl

after-out : (p : Program) (s : MachineState) (act : Act) → act_out act ≡ false → ends_out (after p s act).exit ≡ false
unfolding after
after-out p s Nothing h = refl
after-out p s (Exits exit) h = h
after-out p s (Sets r v) h = refl
after-out p s (Loads r op from) h = loads-out p s r op (loaded s.memory from (loaded_bytes op))
after-out p s (Stores width from v) h = stores-out p s (put_bytes s.memory from (little_endian width v)) (refusal s.memory may.Write from width)
after-out p s (Jumps target) h = lands-out s (jump_to p target)
after-out p s (Branches taken target) h = branches-out taken s (jump_to p target) _
after-out p s (JumpsThrough through) h = lands-out s (jump_through p through)
after-out p s (SetsAndJumps r v target) h = lands-out (with_register s r v) (jump_to p target)
after-out p s (SetsAndJumpsThrough r v through) h = lands-out (with_register s r v) (jump_through p through)
after-out p s (Moves holds r v) h = refl
after-out p s (Grows r amount) h = refl

effect-out : (p : Program) (s : MachineState) → ends_out (effect p s).exit ≡ false
unfolding effect outcome
effect-out p s = after-out p s (act_of (op_at p s.pc) p s) (line-out (op_at p s.pc) _ s)

not_out : (o : Option Exit) → ends_out o ≡ false → o ≡ Some OutOfGas → ⊥
unfolding is_out
not_out o not out = let both : true ≡ false = sym (ap ends_out out) ∙ not in absurd (cc both)

-- so a step that ends so was not paid
step-unpaid : (p : Program) (m : Moment) → (step p m).exit ≡ Some OutOfGas → m.gas < cost p m
step-unpaid p m out = elim (enough_or_short p m) [
  | inl enough ↦ absurd (not_out (effect p m.state).exit (effect-out p m.state) (sym (ap (λ (k : Moment). k.exit) (step-paid p m enough)) ∙ out))
  | inr less ↦ less
]

-- ---- And no run with enough gas

pub unpaid : (p : Program) (m x : Moment) (ms : List Moment) → IsHistory p m ms → m.exit ≡ None → (last_state x ms).exit ≡ Some OutOfGas → m.gas < total_cost p (all_but_last ms)
unpaid p m x [] h going out = absurd h
unpaid p m x (a ∷ []) h going out = absurd (none_has m going h.1)
unpaid p m x (a ∷ (b ∷ [])) h going out =
    let cost_same : cost p a ≡ cost p m = ap (cost p) h.0 in
    omega (arith, cost_same, step-unpaid p m (sym (ap (λ (k : Moment). k.exit) (first_is p (step p m) b [] h.2)) ∙ out))
unpaid p m x (a ∷ (b ∷ (c ∷ ms))) h going out =
    let on : (step p m).exit ≡ None = h.2.1 in
    let cost_same : cost p a ≡ cost p m = ap (cost p) h.0 in
    let charged : (cost p m ≤ m.gas) × ((step p m).gas ≡ m.gas - cost p m) = step-charged p m (λ ended. let both : None ≡ Some OutOfGas = sym on ∙ ended in absurd (cc both)) in
    omega (arith, unpaid p (step p m) a (b ∷ (c ∷ ms)) h.2 on out, cost_same, charged)
