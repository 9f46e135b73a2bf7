-- An instruction that calls the host is an ecalli, and stays at its place.
use Rattle.std.proofs.Common.{◌≡◌, ℕ, Bool, true, false, ap, refl, Option, Some, None, Result, Ok, Err}
use Rattle.std.specs.Prelude.{if◌then◌else◌}
use Rattle.pvm_isa.specs.declared.arguments.Args.{Args}
use Rattle.pvm_isa.specs.declared.op.Op.{Op}
use Rattle.pvm_isa.specs.declared.op.Op.TheVariants.{Ecalli}
use Rattle.pvm_isa.specs.Opcodes.{form_of}
use Rattle.pvm_isa.specs.Arguments.{arguments}
use Rattle.blob_decode.specs.Program.{Program, Landing, to, halts, nowhere, op_at, skip, jump_to, jump_through}
use Rattle.page_rights.specs.declared.rights.Rights.TheVariants as may
use Rattle.paged_memory.specs.declared.access.Access.{Access}
use Rattle.paged_memory.specs.declared.access.Access.TheVariants as access
use Rattle.byte_numbers.specs.Numbers.{little_endian}
use Rattle.paged_memory.specs.PageMap.{Memory, loaded, refusal, put_bytes}
use Rattle.pvm_alu.specs.Alu.{loaded_bytes}
use Rattle.pvm_step.specs.declared.exit.Exit.TheVariants.{Host}
use Rattle.pvm_step.specs.Effect.{MachineState, Act, Nothing, Exits, Sets, Loads, Stores, Jumps, Branches, JumpsThrough, SetsAndJumps, SetsAndJumpsThrough, Moves, Grows, line, act_at, outcome, after, effect, loads, stores, lands, goes, with_register}

landed : (s : MachineState) (l : Landing) (x : ℕ) → (lands s l).exit ≡ Some (Host x) → ⊥
landed s (to place) x e = cc e
landed s halts x e = cc e
landed s nowhere x e = cc e

read : (p : Program) (s : MachineState) (r x : ℕ) (op : Op) (found : Result ℕ Access) → (loads p s r op found).exit ≡ Some (Host x) → ⊥
read p s r x op (Ok raw) e = cc e
read p s r x op (Err access.Low) e = cc e
read p s r x op (Err (access.Fault page)) e = cc e

written : (p : Program) (s : MachineState) (m : Memory) (refused : Option Access) (x : ℕ) → (stores p s m refused).exit ≡ Some (Host x) → ⊥
written p s m None x e = cc e
written p s m (Some access.Low) x e = cc e
written p s m (Some (access.Fault page)) x e = cc e

branched : (taken : Bool) (s : MachineState) (l : Landing) (place x : ℕ) → (if taken then lands s l else goes s place).exit ≡ Some (Host x) → ⊥
branched true s l place x e = landed s l x e
branched false s l place x e = cc e

-- by the kind of its effect
host_by : (p : Program) (s : MachineState) (act : Act) (x : ℕ) → (after p s act).exit ≡ Some (Host x) → act ≡ Exits (Host x)
unfolding after
host_by p s Nothing x e = absurd (cc e)
host_by p s (Exits exit) x e = let same : exit ≡ Host x = cc e in ap Exits same
host_by p s (Sets r v) x e = absurd (cc e)
host_by p s (Loads r op from) x e = absurd (read p s r x op (loaded s.memory from (loaded_bytes op)) e)
host_by p s (Stores width from v) x e = absurd (written p s (put_bytes s.memory from (little_endian width v)) (refusal s.memory may.Write from width) x e)
host_by p s (Jumps target) x e = absurd (landed s (jump_to p target) x e)
host_by p s (Branches taken target) x e = absurd (branched taken s (jump_to p target) _ x e)
host_by p s (JumpsThrough through) x e = absurd (landed s (jump_through p through) x e)
host_by p s (SetsAndJumps r v target) x e = absurd (landed (with_register s r v) (jump_to p target) x e)
host_by p s (SetsAndJumpsThrough r v through) x e = absurd (landed (with_register s r v) (jump_through p through) x e)
host_by p s (Moves holds r v) x e = absurd (cc e)
host_by p s (Grows r amount) x e = absurd (cc e)

-- and by the opcode
ecalli_by : (op : Op) (a : Args) (s : MachineState) (x : ℕ) → line op a s ≡ Exits (Host x) → op ≡ Ecalli
unfolding line
ecalli_by Ecalli a s x e = refl
ecalli_by _ a s x e = absurd (cc e)

pub ecalli_at : (p : Program) (s : MachineState) (x : ℕ) → (effect p s).exit ≡ Some (Host x) → op_at p s.pc ≡ Ecalli
unfolding effect outcome
ecalli_at p s x e = ecalli_by (op_at p s.pc) (arguments (form_of (op_at p s.pc)) p.code s.pc (skip p s.pc)) s x (host_by p s (act_at p s) x e)

pub stays_at : (p : Program) (s : MachineState) (x : ℕ) → (effect p s).exit ≡ Some (Host x) → (effect p s).state.pc ≡ s.pc
unfolding effect outcome after
stays_at p s x e = ap (λ (act : Act). (after p s act).state.pc) (host_by p s (act_at p s) x e)
