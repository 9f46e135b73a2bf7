-- What a store does, and what the machine does at a place past the code.
use Rattle.std.proofs.lemmas.Bool.{cases_lt}
use Rattle.std.proofs.Common.{◌≡◌, ℕ, ◌<◌, ◌≤◌, inl, inr, Bool, true, false, ◌&&◌, length, arith, ap, ◌∙◌, refl, Option, Some, None, Result, Ok, Err}
use Rattle.std.specs.Prelude.{◌↔◌, nat_lt, if◌then◌else◌, is_some, unwrap_or}
use Rattle.std.proofs.lemmas.Bool.Decides.{nat_tests}
use Rattle.pvm_isa.specs.declared.op.Op.TheVariants.{Trap, Ecalli}
use Rattle.pvm_isa.specs.Opcodes.{op_numbered}
use Rattle.blob_decode.specs.Program.{Program, mask_bit, op_at, next, skip, jump_to}
use Rattle.pvm_isa.specs.Arguments.{code_byte}
use Rattle.page_rights.specs.declared.rights.Rights.TheVariants as may
use Rattle.paged_memory.specs.declared.access.Access.{Access}
use Rattle.paged_memory.specs.declared.access.StoreRefusal.{StoreRefusal}
use Rattle.paged_memory.specs.declared.access.StoreRefusal.TheVariants as refused
use Rattle.byte_numbers.specs.Numbers.{little_endian}
use Rattle.paged_memory.specs.PageMap.{Memory, refusal, put_bytes}
use Rattle.pvm_step.specs.declared.exit.Exit.TheVariants.{Panic}
use Rattle.pvm_isa.specs.declared.arguments.Args.{Args}
use Rattle.pvm_isa.specs.declared.form.Form.{Form}
use Rattle.pvm_isa.specs.declared.op.Op.{Op}
use Rattle.pvm_isa.specs.Opcodes.{form_of}
use Rattle.pvm_isa.specs.Arguments.{arguments}
use Rattle.pvm_step.specs.Effect.{MachineState, Act, Stores, Branches, line, outcome, after, effect, goes, stops, lands, stores, exit_of}

-- a store that is not refused, and one that is
pub stored-at : (p : Program) (s : MachineState) (width to value : ℕ) → refusal s.memory may.Write to width ≡ None
    → after p s (Stores width to value) ≡ goes (record s { memory = put_bytes s.memory to (little_endian width value) }) (next p s.pc)
unfolding after
stored-at p s width to value h = ap (stores p s (put_bytes s.memory to (little_endian width value))) h

pub refused-at : (p : Program) (s : MachineState) (width to value : ℕ) (access : Access) → refusal s.memory may.Write to width ≡ Some access
    → after p s (Stores width to value) ≡ stops s (exit_of access)
unfolding after
refused-at p s width to value access h = ap (stores p s (put_bytes s.memory to (little_endian width value))) h

none_of : (o : Option Access) → ((access : Access) → o ≡ Some access → ⊥) → o ≡ None
none_of None h = refl
none_of (Some access) h = absurd (h access refl)

apart : (r : Result (Unit {0}) StoreRefusal) (u : Unit {0}) (f : StoreRefusal) → r ≡ Ok u → r ≡ Err f → ⊥
apart r u f e g = cc

-- by what a store tells
pub allowed : (m : Memory) (to width : ℕ) (r : Result (Unit {0}) StoreRefusal) (u : Unit {0}) → r ≡ Ok u
    → ((access : Access) → (r ≡ Err (refused.Access access)) ↔ (refusal m may.Write to width ≡ Some access)) → refusal m may.Write to width ≡ None
allowed m to width r u is told = none_of (refusal m may.Write to width) (λ access e. apart r u (refused.Access access) is ((told access).1 e))

pub forbidden : (m : Memory) (to width : ℕ) (r : Result (Unit {0}) StoreRefusal) (f : StoreRefusal) (access : Access) → r ≡ Err f → f ≡ refused.Access access
    → ((access : Access) → (r ≡ Err (refused.Access access)) ↔ (refusal m may.Write to width ≡ Some access)) → refusal m may.Write to width ≡ Some access
forbidden m to width r f access is was told = (told access).0 (is ∙ ap (λ (g : StoreRefusal). Err g) was)

-- a branch that is taken, and one that is not
pub taken-at : (p : Program) (s : MachineState) (target : Option ℕ) (test : Bool) → test ≡ true → after p s (Branches test target) ≡ lands s (jump_to p target)
unfolding after
taken-at p s target test h = ap (λ (b : Bool). if b then lands s (jump_to p target) else goes s (next p s.pc)) h

pub passed-at : (p : Program) (s : MachineState) (target : Option ℕ) (test : Bool) → test ≡ false → after p s (Branches test target) ≡ goes s (next p s.pc)
unfolding after
passed-at p s target test h = ap (λ (b : Bool). if b then lands s (jump_to p target) else goes s (next p s.pc)) h

-- past the code the opcode is trap, which panics
pub op_at-past : (p : Program) (i : ℕ) → length p.code ≤ i → op_at p i ≡ Trap
unfolding op_at
op_at-past p i past =
    let out : nat_lt i (length p.code) ≡ false = grind (arith, nat_tests) in
    ap (λ b. if b && mask_bit p i && is_some (op_numbered (code_byte p.code i)) then unwrap_or (op_numbered (code_byte p.code i)) Trap else Trap) out

pub trap_panics : (p : Program) (s : MachineState) → outcome Trap p s ≡ stops s Panic
unfolding after outcome line
trap_panics p s = refl

pub effect-past : (p : Program) (s : MachineState) → length p.code ≤ s.pc → effect p s ≡ stops s Panic
unfolding effect
effect-past p s past = ap (λ op. outcome op p s) (op_at-past p s.pc past) ∙ trap_panics p s

-- so a host call stands within the code
pub within-ecalli : (p : Program) (i : ℕ) → op_at p i ≡ Ecalli → i < length p.code
within-ecalli p i h = elim (cases_lt i (length p.code)) [ inl within ↦ within | inr past ↦ let t : op_at p i ≡ Trap = op_at-past p i (omega arith) in absurd (cc) ]

-- what an opcode does, by its line and its form
pub outcome_by : (op : Op) (form : Form) (act : Args → MachineState → Act) (p : Program) (s : MachineState) → line op ≡ act → form_of op ≡ form
    → outcome op p s ≡ after p s (act (arguments form p.code s.pc (skip p s.pc)) s)
unfolding outcome
outcome_by op form act p s by_line by_form =
    ap (λ (l : Args → MachineState → Act). after p s (l (arguments (form_of op) p.code s.pc (skip p s.pc)) s)) by_line
    ∙ ap (λ (f : Form). after p s (act (arguments f p.code s.pc (skip p s.pc)) s)) by_form
