-- Programs, and the blobs that spell them (Gray Paper 0.7.0, appendix A; the layout is this project's own).
use Rattle.std.specs.Prelude.{◌≡◌, ◌<◌, ◌≤◌, ◌⊎◌, IsTrue, ℕ, zero, suc, ◌+◌, ◌-◌, ◌/◌, ◌%◌, Bool, true, false, ◌&&◌, ◌||◌, ◌==◌, nat_lt, nat_le, List, length, get_or, slice_get, if◌then◌else◌, Option, Some, None, is_some, unwrap_or}
use Rattle.jam_codec.specs.Format.{Format, both, by, natural_where, fixed_where, bytes_where, bits_where, numbers_of, any}
use Rattle.pvm_isa.specs.declared.op.Op.{Op}
use Rattle.pvm_isa.specs.declared.op.Op.TheVariants.{Trap}
use Rattle.pvm_isa.specs.Arguments.{code_byte}
use Rattle.pvm_isa.specs.Opcodes.{number_of, op_numbered}
use Rattle.pvm_isa.specs.Terminators.{is_terminator}

-- the width of a jump's spelling in bytes, the targets of jumps, the code, and for each of its bytes
-- whether an instruction begins there
pub record Program : Type 0 where
  pub width : ℕ
  pub jumps : List ℕ
  pub code : List ℕ
  pub mask : List Bool

-- how many jumps, their width of 0 to 8, how many bytes of code, the jumps, the code, a mask bit for each byte
abbrev pub fields : Format (ℕ × (ℕ × (ℕ × (List ℕ × (List ℕ × List Bool)))))
fields = both (natural_where any) (λ jumps. both (fixed_where 1 (λ width. nat_le width 8)) (λ width. both (natural_where any) (λ size.
    both (numbers_of width jumps) (λ targets. both (bytes_where size any) (λ code. bits_where size any)))))

-- the format of a program blob
abbrev pub program_blob : Format Program
program_blob = by (λ f. record { width = f.1.0; jumps = f.1.1.1.0; code = f.1.1.1.1.0; mask = f.1.1.1.1.1 })
    (λ p. (length p.jumps, (p.width, (length p.code, (p.jumps, (p.code, p.mask))))))
    fields

-- the mask is extended by ones past the code
abbrev pub mask_bit : Program → ℕ → Bool
mask_bit p i = get_or p.mask i true

-- of the n places from i on, how many stand before the first at which an instruction begins
unfoldable pub gap : Program → ℕ → ℕ → ℕ
gap p i zero = 0
gap p i (suc n) = if mask_bit p i then 0 else gap p (i + 1) n + 1

-- how many bytes of arguments the instruction at i has: those up to the next instruction, and at most 24
abbrev pub skip : Program → ℕ → ℕ
skip p i = gap p (i + 1) 24

-- the same in words: the least distance from the place after i to one at which an instruction begins, and at most 24
pub record IsSkip (p : Program) (i n : ℕ) : Type 0 where
  pub most : n ≤ 24
  pub none_nearer : (j : ℕ) → j < n → mask_bit p (i + 1 + j) ≡ false
  pub begins : n < 24 → mask_bit p (i + 1 + n) ≡ true

-- the place after the instruction at i
abbrev pub next : Program → ℕ → ℕ
next p i = i + 1 + skip p i

-- an instruction with a defined opcode begins at i
abbrev pub op_begins : Program → ℕ → Bool
op_begins p i = nat_lt i (length p.code) && mask_bit p i && is_some (op_numbered (code_byte p.code i))

-- the opcode at i: trap where no instruction with a defined opcode begins
unfoldable pub op_at : Program → ℕ → Op
op_at p i = if op_begins p i then unwrap_or (op_numbered (code_byte p.code i)) Trap else Trap

-- a byte is the number of an opcode that ends a block; a number that is not defined ends none
abbrev pub ends : Option Op → Bool
ends None = false
ends (Some op) = is_terminator op

abbrev pub ends_block : ℕ → Bool
ends_block byte = ends (op_numbered byte)

-- an instruction that ends a block stands at n, and the place after it is i
abbrev pub ends_before : Program → ℕ → ℕ → Bool
ends_before p i n = mask_bit p n && ends_block (code_byte p.code n) && next p n == i

-- a test passes at some place below n
unfoldable pub some_below : ℕ → (ℕ → Bool) → Bool
some_below zero test = false
some_below (suc n) test = test n || some_below n test

-- a block begins at i: an instruction with a defined opcode, at place 0 or after one that ends a block
unfoldable pub is_start : Program → ℕ → Bool
is_start p i = op_begins p i && (i == 0 || some_below (length p.code) (ends_before p i))

-- the same in words: an instruction with a defined opcode begins there, at place 0 or right after an instruction that ends a block
pub record IsStart (p : Program) (i : ℕ) : Type 0 where
  pub within : i < length p.code
  pub begins : IsTrue (mask_bit p i)
  pub defined : (op : Op) × (number_of op ≡ code_byte p.code i)
  pub after : (i ≡ 0) ⊎ ((n : ℕ) × (n < length p.code) × IsTrue (mask_bit p n)
      × ((op : Op) × (number_of op ≡ code_byte p.code n) × IsTrue (is_terminator op)) × (i ≡ next p n))

-- where a jump leads
pub data Landing : Type 0 where
  to : ℕ → Landing
  halts : Landing
  nowhere : Landing

-- a static jump or a taken branch: to a block start, or nowhere
abbrev pub jump_to : Program → Option ℕ → Landing
jump_to p None = nowhere
jump_to p (Some place) = if is_start p place then to place else nowhere

-- the address that a halting program jumps to
abbrev pub halt_address : ℕ
halt_address = 4294901760

-- a dynamic jump to an address (djump): through the jump table, in which address 2 stands for the first entry
abbrev pub jump_through : Program → ℕ → Landing
jump_through p a = if a == halt_address then halts
    else if a == 0 || a % 2 == 1 then nowhere
    else jump_to p (slice_get p.jumps (a / 2 - 1))
