-- What an effect names: the register that it may set, and the bytes that it may change.
use Rattle.std.specs.Prelude.{◌≡◌, ℕ, ◌+◌, ◌<◌, ◌≤◌, Bool, true, false, List, [], Option, Some, None}
use Rattle.pvm_isa.specs.declared.op.Op.{Op}
use Rattle.pvm_isa.specs.declared.op.Op.TheVariants.{Ecalli, StoreImmU8, StoreImmU16, StoreImmU32, StoreImmU64, JumpInd, LoadU8, LoadI8, LoadU16, LoadI16, LoadU32, LoadI32, LoadU64, StoreU8, StoreU16, StoreU32, StoreU64, StoreImmIndU8, StoreImmIndU16, StoreImmIndU32, StoreImmIndU64, Sbrk, StoreIndU8, StoreIndU16, StoreIndU32, StoreIndU64, LoadIndU8, LoadIndI8, LoadIndU16, LoadIndI16, LoadIndU32, LoadIndI32, LoadIndU64, LoadImmJumpInd}
use Rattle.paged_memory.specs.PageMap.{Page, Write, page_of, blank, addresses}
use Rattle.pvm_step.specs.Effect.{MachineState, Act, Nothing, Exits, Sets, Loads, Stores, Jumps, Branches, JumpsThrough, SetsAndJumps, SetsAndJumpsThrough, Moves, Grows}

abbrev pub register_of : Act → Option ℕ
register_of Nothing = None
register_of (Exits exit) = None
register_of (Sets register value) = Some register
register_of (Loads register op from) = Some register
register_of (Stores width to value) = None
register_of (Jumps target) = None
register_of (Branches taken target) = None
register_of (JumpsThrough through) = None
register_of (SetsAndJumps register value target) = Some register
register_of (SetsAndJumpsThrough register value through) = Some register
register_of (Moves holds register value) = Some register
register_of (Grows register amount) = Some register

-- the addresses of the bytes that a store writes
abbrev pub stored_by : Act → List ℕ
stored_by (Stores width to value) = addresses to width
stored_by act = []

-- stores change bytes, and sbrk changes rights
abbrev pub changes_memory : Act → Bool
changes_memory (Stores width to value) = true
changes_memory (Grows register amount) = true
changes_memory act = false

-- a page has one of so many bytes from the heap's next one on
abbrev pub Touches : MachineState → ℕ → ℕ → Type 0
Touches s amount page = (address : ℕ) × (s.heap.next ≤ address) × (address < s.heap.next + amount) × (page_of address ≡ page)

-- a page that may be written, with bytes 0
abbrev pub new_page : Page
new_page = record { right = Write; bytes = blank }

-- opcodes that work on the registers and the pc alone: no memory, no heap, no jump table and no host
unfoldable pub on_registers : Op → Bool
on_registers Ecalli = false
on_registers StoreImmU8 = false
on_registers StoreImmU16 = false
on_registers StoreImmU32 = false
on_registers StoreImmU64 = false
on_registers JumpInd = false
on_registers LoadU8 = false
on_registers LoadI8 = false
on_registers LoadU16 = false
on_registers LoadI16 = false
on_registers LoadU32 = false
on_registers LoadI32 = false
on_registers LoadU64 = false
on_registers StoreU8 = false
on_registers StoreU16 = false
on_registers StoreU32 = false
on_registers StoreU64 = false
on_registers StoreImmIndU8 = false
on_registers StoreImmIndU16 = false
on_registers StoreImmIndU32 = false
on_registers StoreImmIndU64 = false
on_registers Sbrk = false
on_registers StoreIndU8 = false
on_registers StoreIndU16 = false
on_registers StoreIndU32 = false
on_registers StoreIndU64 = false
on_registers LoadIndU8 = false
on_registers LoadIndI8 = false
on_registers LoadIndU16 = false
on_registers LoadIndI16 = false
on_registers LoadIndU32 = false
on_registers LoadIndI32 = false
on_registers LoadIndU64 = false
on_registers LoadImmJumpInd = false
on_registers _ = true
