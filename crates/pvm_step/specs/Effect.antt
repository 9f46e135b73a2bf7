-- What an instruction does (Gray Paper 0.7.0, appendix A; the opcodes' effects and the heap's rule are this project's own).
-- There is one line for each opcode. Addresses are modulo 2 ^ 32.
use Rattle.std.specs.Prelude.{ℕ, ◌+◌, ◌-◌, ◌/◌, ◌%◌, ◌^◌, ◌==◌, nat_lt, not, Bool, List, get_or, set, if◌then◌else◌, Option, Some, None, Result, Ok, Err}
use Rattle.pvm_isa.specs.declared.arguments.Args.{Args}
use Rattle.pvm_isa.specs.declared.op.Op.{Op}
use Rattle.pvm_isa.specs.declared.op.Op.TheVariants.{Trap, Fallthrough, Ecalli, LoadImm64, StoreImmU8, StoreImmU16, StoreImmU32, StoreImmU64, Jump, JumpInd, LoadImm, LoadU8, LoadI8, LoadU16, LoadI16, LoadU32, LoadI32, LoadU64, StoreU8, StoreU16, StoreU32, StoreU64, StoreImmIndU8, StoreImmIndU16, StoreImmIndU32, StoreImmIndU64, LoadImmJump, BranchEqImm, BranchNeImm, BranchLtUImm, BranchLeUImm, BranchGeUImm, BranchGtUImm, BranchLtSImm, BranchLeSImm, BranchGeSImm, BranchGtSImm, MoveReg, Sbrk, CountSetBits64, CountSetBits32, LeadingZeroBits64, LeadingZeroBits32, TrailingZeroBits64, TrailingZeroBits32, SignExtend8, SignExtend16, ZeroExtend16, ReverseBytes, StoreIndU8, StoreIndU16, StoreIndU32, StoreIndU64, LoadIndU8, LoadIndI8, LoadIndU16, LoadIndI16, LoadIndU32, LoadIndI32, LoadIndU64, AddImm32, AndImm, XorImm, OrImm, MulImm32, SetLtUImm, SetLtSImm, ShloLImm32, ShloRImm32, SharRImm32, NegAddImm32, SetGtUImm, SetGtSImm, ShloLImmAlt32, ShloRImmAlt32, SharRImmAlt32, CmovIzImm, CmovNzImm, AddImm64, MulImm64, ShloLImm64, ShloRImm64, SharRImm64, NegAddImm64, ShloLImmAlt64, ShloRImmAlt64, SharRImmAlt64, RotR64Imm, RotR64ImmAlt, RotR32Imm, RotR32ImmAlt, BranchEq, BranchNe, BranchLtU, BranchLtS, BranchGeU, BranchGeS, LoadImmJumpInd, Add32, Sub32, Mul32, DivU32, DivS32, RemU32, RemS32, ShloL32, ShloR32, SharR32, Add64, Sub64, Mul64, DivU64, DivS64, RemU64, RemS64, ShloL64, ShloR64, SharR64, And, Xor, Or, MulUpperSS, MulUpperUU, MulUpperSU, SetLtU, SetLtS, CmovIz, CmovNz, RotL64, RotL32, RotR64, RotR32, AndInv, OrInv, Xnor, Max, MaxU, Min, MinU}
use Rattle.pvm_isa.specs.Opcodes.{form_of}
use Rattle.pvm_isa.specs.Arguments.{arguments}
use Rattle.pvm_alu.specs.Alu.{binary, unary, test, widen, loaded_bytes}
use Rattle.blob_decode.specs.Program.{Program, Landing, to, halts, nowhere, op_at, skip, next, jump_to, jump_through}
use Rattle.page_rights.specs.declared.rights.Rights.TheVariants as may
use Rattle.paged_memory.specs.declared.access.Access.{Access}
use Rattle.paged_memory.specs.declared.access.Access.TheVariants as access
use Rattle.byte_numbers.specs.Numbers.{little_endian}
use Rattle.paged_memory.specs.PageMap.{Memory, page_of, loaded, refusal, put_bytes, lift_pages}
use Rattle.pvm_step.specs.declared.exit.Exit.{Exit}
use Rattle.pvm_step.specs.declared.exit.Exit.TheVariants.{Halt, Panic, Fault, Host}

-- where the heap's next byte is, and where the heap ends
pub record Heap : Type 0 where
  pub next : ℕ
  pub end : ℕ

-- what an instruction reads and changes
pub record MachineState : Type 0 where
  pub pc : ℕ
  pub registers : List ℕ
  pub memory : Memory
  pub heap : Heap

abbrev pub value_in : MachineState → ℕ → ℕ
value_in s register = get_or s.registers register 0

abbrev pub address : ℕ → ℕ
address sum = sum % 2 ^ 32

-- ---- The kinds of effects

pub data Act : Type 0 where
  -- nothing
  Nothing : Act
  -- it ends the run
  Exits : Exit → Act
  -- a register gets a value
  Sets : ℕ → ℕ → Act
  -- a register gets what the load of an opcode makes of the bytes at an address
  Loads : ℕ → Op → ℕ → Act
  -- so many bytes at an address get the low bytes of a value
  Stores : ℕ → ℕ → ℕ → Act
  -- it jumps to a target, if there is one
  Jumps : Option ℕ → Act
  -- it jumps so where the test holds
  Branches : Bool → Option ℕ → Act
  -- it jumps through the jump table, by an address
  JumpsThrough : ℕ → Act
  -- a register gets a value, and then it jumps
  SetsAndJumps : ℕ → ℕ → Option ℕ → Act
  -- a register gets a value, and then it jumps through the jump table
  SetsAndJumpsThrough : ℕ → ℕ → ℕ → Act
  -- a register gets a value where the test holds
  Moves : Bool → ℕ → ℕ → Act
  -- the heap grows by an amount, and a register gets where its next byte was before
  Grows : ℕ → ℕ → Act

-- ---- Lines that opcodes have in common

-- register D gets the operation's value of a, or of a and b; register A that of b and X
abbrev pub sets_of_a : Op → Args → MachineState → Act
sets_of_a op a s = Sets a.d (unary op (value_in s a.a))

abbrev pub sets_of_a_b : Op → Args → MachineState → Act
sets_of_a_b op a s = Sets a.d (binary op (value_in s a.a) (value_in s a.b))

abbrev pub sets_of_b_x : Op → Args → MachineState → Act
sets_of_b_x op a s = Sets a.a (binary op (value_in s a.b) a.x)

-- register A gets the bytes at X, or at b + X
abbrev pub loads_at_x : Op → Args → MachineState → Act
loads_at_x op a s = Loads a.a op (address a.x)

abbrev pub loads_at_b_x : Op → Args → MachineState → Act
loads_at_b_x op a s = Loads a.a op (address (value_in s a.b + a.x))

-- so many bytes at X, at a + X or at b + X get those of Y or of a
abbrev pub stores_y_at_x : ℕ → Args → MachineState → Act
stores_y_at_x width a s = Stores width (address a.x) a.y

abbrev pub stores_a_at_x : ℕ → Args → MachineState → Act
stores_a_at_x width a s = Stores width (address a.x) (value_in s a.a)

abbrev pub stores_y_at_a_x : ℕ → Args → MachineState → Act
stores_y_at_a_x width a s = Stores width (address (value_in s a.a + a.x)) a.y

abbrev pub stores_a_at_b_x : ℕ → Args → MachineState → Act
stores_a_at_b_x width a s = Stores width (address (value_in s a.b + a.x)) (value_in s a.a)

-- a jump to T where a compares so to X, or to b
abbrev pub branches_on_a_x : Op → Args → MachineState → Act
branches_on_a_x op a s = Branches (test op (value_in s a.a) a.x) a.target

abbrev pub branches_on_a_b : Op → Args → MachineState → Act
branches_on_a_b op a s = Branches (test op (value_in s a.a) (value_in s a.b)) a.target

-- ---- The table of effects

unfoldable pub line : Op → Args → MachineState → Act
line Trap = λ a s. Exits Panic
line Fallthrough = λ a s. Nothing
line Ecalli = λ a s. Exits (Host a.x)
line LoadImm64 = λ a s. Sets a.a a.x
line StoreImmU8 = stores_y_at_x 1
line StoreImmU16 = stores_y_at_x 2
line StoreImmU32 = stores_y_at_x 4
line StoreImmU64 = stores_y_at_x 8
line Jump = λ a s. Jumps a.target
line JumpInd = λ a s. JumpsThrough (address (value_in s a.a + a.x))
line LoadImm = λ a s. Sets a.a a.x
line LoadU8 = loads_at_x LoadU8
line LoadI8 = loads_at_x LoadI8
line LoadU16 = loads_at_x LoadU16
line LoadI16 = loads_at_x LoadI16
line LoadU32 = loads_at_x LoadU32
line LoadI32 = loads_at_x LoadI32
line LoadU64 = loads_at_x LoadU64
line StoreU8 = stores_a_at_x 1
line StoreU16 = stores_a_at_x 2
line StoreU32 = stores_a_at_x 4
line StoreU64 = stores_a_at_x 8
line StoreImmIndU8 = stores_y_at_a_x 1
line StoreImmIndU16 = stores_y_at_a_x 2
line StoreImmIndU32 = stores_y_at_a_x 4
line StoreImmIndU64 = stores_y_at_a_x 8
line LoadImmJump = λ a s. SetsAndJumps a.a a.x a.target
line BranchEqImm = branches_on_a_x BranchEqImm
line BranchNeImm = branches_on_a_x BranchNeImm
line BranchLtUImm = branches_on_a_x BranchLtUImm
line BranchLeUImm = branches_on_a_x BranchLeUImm
line BranchGeUImm = branches_on_a_x BranchGeUImm
line BranchGtUImm = branches_on_a_x BranchGtUImm
line BranchLtSImm = branches_on_a_x BranchLtSImm
line BranchLeSImm = branches_on_a_x BranchLeSImm
line BranchGeSImm = branches_on_a_x BranchGeSImm
line BranchGtSImm = branches_on_a_x BranchGtSImm
line MoveReg = λ a s. Sets a.d (value_in s a.a)
line Sbrk = λ a s. Grows a.d (value_in s a.a)
line CountSetBits64 = sets_of_a CountSetBits64
line CountSetBits32 = sets_of_a CountSetBits32
line LeadingZeroBits64 = sets_of_a LeadingZeroBits64
line LeadingZeroBits32 = sets_of_a LeadingZeroBits32
line TrailingZeroBits64 = sets_of_a TrailingZeroBits64
line TrailingZeroBits32 = sets_of_a TrailingZeroBits32
line SignExtend8 = sets_of_a SignExtend8
line SignExtend16 = sets_of_a SignExtend16
line ZeroExtend16 = sets_of_a ZeroExtend16
line ReverseBytes = sets_of_a ReverseBytes
line StoreIndU8 = stores_a_at_b_x 1
line StoreIndU16 = stores_a_at_b_x 2
line StoreIndU32 = stores_a_at_b_x 4
line StoreIndU64 = stores_a_at_b_x 8
line LoadIndU8 = loads_at_b_x LoadIndU8
line LoadIndI8 = loads_at_b_x LoadIndI8
line LoadIndU16 = loads_at_b_x LoadIndU16
line LoadIndI16 = loads_at_b_x LoadIndI16
line LoadIndU32 = loads_at_b_x LoadIndU32
line LoadIndI32 = loads_at_b_x LoadIndI32
line LoadIndU64 = loads_at_b_x LoadIndU64
line AddImm32 = sets_of_b_x AddImm32
line AndImm = sets_of_b_x AndImm
line XorImm = sets_of_b_x XorImm
line OrImm = sets_of_b_x OrImm
line MulImm32 = sets_of_b_x MulImm32
line SetLtUImm = sets_of_b_x SetLtUImm
line SetLtSImm = sets_of_b_x SetLtSImm
line ShloLImm32 = sets_of_b_x ShloLImm32
line ShloRImm32 = sets_of_b_x ShloRImm32
line SharRImm32 = sets_of_b_x SharRImm32
line NegAddImm32 = sets_of_b_x NegAddImm32
line SetGtUImm = sets_of_b_x SetGtUImm
line SetGtSImm = sets_of_b_x SetGtSImm
line ShloLImmAlt32 = sets_of_b_x ShloLImmAlt32
line ShloRImmAlt32 = sets_of_b_x ShloRImmAlt32
line SharRImmAlt32 = sets_of_b_x SharRImmAlt32
line CmovIzImm = λ a s. Moves (value_in s a.b == 0) a.a a.x
line CmovNzImm = λ a s. Moves (not (value_in s a.b == 0)) a.a a.x
line AddImm64 = sets_of_b_x AddImm64
line MulImm64 = sets_of_b_x MulImm64
line ShloLImm64 = sets_of_b_x ShloLImm64
line ShloRImm64 = sets_of_b_x ShloRImm64
line SharRImm64 = sets_of_b_x SharRImm64
line NegAddImm64 = sets_of_b_x NegAddImm64
line ShloLImmAlt64 = sets_of_b_x ShloLImmAlt64
line ShloRImmAlt64 = sets_of_b_x ShloRImmAlt64
line SharRImmAlt64 = sets_of_b_x SharRImmAlt64
line RotR64Imm = sets_of_b_x RotR64Imm
line RotR64ImmAlt = sets_of_b_x RotR64ImmAlt
line RotR32Imm = sets_of_b_x RotR32Imm
line RotR32ImmAlt = sets_of_b_x RotR32ImmAlt
line BranchEq = branches_on_a_b BranchEq
line BranchNe = branches_on_a_b BranchNe
line BranchLtU = branches_on_a_b BranchLtU
line BranchLtS = branches_on_a_b BranchLtS
line BranchGeU = branches_on_a_b BranchGeU
line BranchGeS = branches_on_a_b BranchGeS
line LoadImmJumpInd = λ a s. SetsAndJumpsThrough a.a a.x (address (value_in s a.b + a.y))
line Add32 = sets_of_a_b Add32
line Sub32 = sets_of_a_b Sub32
line Mul32 = sets_of_a_b Mul32
line DivU32 = sets_of_a_b DivU32
line DivS32 = sets_of_a_b DivS32
line RemU32 = sets_of_a_b RemU32
line RemS32 = sets_of_a_b RemS32
line ShloL32 = sets_of_a_b ShloL32
line ShloR32 = sets_of_a_b ShloR32
line SharR32 = sets_of_a_b SharR32
line Add64 = sets_of_a_b Add64
line Sub64 = sets_of_a_b Sub64
line Mul64 = sets_of_a_b Mul64
line DivU64 = sets_of_a_b DivU64
line DivS64 = sets_of_a_b DivS64
line RemU64 = sets_of_a_b RemU64
line RemS64 = sets_of_a_b RemS64
line ShloL64 = sets_of_a_b ShloL64
line ShloR64 = sets_of_a_b ShloR64
line SharR64 = sets_of_a_b SharR64
line And = sets_of_a_b And
line Xor = sets_of_a_b Xor
line Or = sets_of_a_b Or
line MulUpperSS = sets_of_a_b MulUpperSS
line MulUpperUU = sets_of_a_b MulUpperUU
line MulUpperSU = sets_of_a_b MulUpperSU
line SetLtU = sets_of_a_b SetLtU
line SetLtS = sets_of_a_b SetLtS
line CmovIz = λ a s. Moves (value_in s a.b == 0) a.d (value_in s a.a)
line CmovNz = λ a s. Moves (not (value_in s a.b == 0)) a.d (value_in s a.a)
line RotL64 = sets_of_a_b RotL64
line RotL32 = sets_of_a_b RotL32
line RotR64 = sets_of_a_b RotR64
line RotR32 = sets_of_a_b RotR32
line AndInv = sets_of_a_b AndInv
line OrInv = sets_of_a_b OrInv
line Xnor = sets_of_a_b Xnor
line Max = sets_of_a_b Max
line MaxU = sets_of_a_b MaxU
line Min = sets_of_a_b Min
line MinU = sets_of_a_b MinU

-- ---- What the kinds do

-- the state after an instruction, and the exit, if it ends the run
pub record After : Type 0 where
  pub state : MachineState
  pub exit : Option Exit

abbrev pub goes : MachineState → ℕ → After
goes s place = record { state = record s { pc = place }; exit = None }

-- at an exit the pc stays
abbrev pub stops : MachineState → Exit → After
stops s exit = record { state = s; exit = Some exit }

abbrev pub lands : MachineState → Landing → After
lands s (to place) = goes s place
lands s halts = stops s Halt
lands s nowhere = stops s Panic

abbrev pub with_register : MachineState → ℕ → ℕ → MachineState
with_register s register value = record s { registers = set s.registers register value }

-- a refused access panics below 65,536, and is a fault above
abbrev pub exit_of : Access → Exit
exit_of access.Low = Panic
exit_of (access.Fault page) = Fault page

abbrev pub loads : Program → MachineState → ℕ → Op → Result ℕ Access → After
loads p s register op (Ok raw) = goes (with_register s register (widen op raw)) (next p s.pc)
loads p s register op (Err refused) = stops s (exit_of refused)

abbrev pub stores : Program → MachineState → Memory → Option Access → After
stores p s stored None = goes (record s { memory = stored }) (next p s.pc)
stores p s stored (Some refused) = stops s (exit_of refused)

-- how many pages the bytes from one address up to before another touch
abbrev pub pages_touched : ℕ → ℕ → ℕ
pages_touched from past = (past + 4095) / 4096 - page_of from

-- the heap's next byte is so much higher. The pages without rights that the bytes up to there touch can be written, and are 0
abbrev pub grown : MachineState → ℕ → MachineState
grown s amount = record s {
  memory = lift_pages s.memory (page_of s.heap.next) (pages_touched s.heap.next (s.heap.next + amount));
  heap = record { next = s.heap.next + amount; end = s.heap.end };
}

-- it grows where the amount is not 0 and the heap has so much left; where it has not, the register gets 0
abbrev pub grows : MachineState → ℕ → ℕ → MachineState
grows s register amount = if amount == 0 then with_register s register s.heap.next
    else if nat_lt s.heap.end (s.heap.next + amount) then with_register s register 0
    else with_register (grown s amount) register s.heap.next

unfoldable pub after : Program → MachineState → Act → After
after p s Nothing = goes s (next p s.pc)
after p s (Exits exit) = stops s exit
after p s (Sets register value) = goes (with_register s register value) (next p s.pc)
after p s (Loads register op from) = loads p s register op (loaded s.memory from (loaded_bytes op))
after p s (Stores width from value) = stores p s (put_bytes s.memory from (little_endian width value)) (refusal s.memory may.Write from width)
after p s (Jumps target) = lands s (jump_to p target)
after p s (Branches taken target) = if taken then lands s (jump_to p target) else goes s (next p s.pc)
after p s (JumpsThrough through) = lands s (jump_through p through)
after p s (SetsAndJumps register value target) = lands (with_register s register value) (jump_to p target)
after p s (SetsAndJumpsThrough register value through) = lands (with_register s register value) (jump_through p through)
after p s (Moves holds register value) = goes (if holds then with_register s register value else s) (next p s.pc)
after p s (Grows register amount) = goes (grows s register amount) (next p s.pc)

-- what the instruction of an opcode does at the pc
abbrev pub act_of : Op → Program → MachineState → Act
act_of op p s = line op (arguments (form_of op) p.code s.pc (skip p s.pc)) s

unfoldable pub outcome : Op → Program → MachineState → After
outcome op p s = after p s (act_of op p s)

-- what the instruction at the pc does
abbrev pub act_at : Program → MachineState → Act
act_at p s = act_of (op_at p s.pc) p s

unfoldable pub effect : Program → MachineState → After
effect p s = outcome (op_at p s.pc) p s
