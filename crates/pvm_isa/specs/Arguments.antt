-- The arguments of an instruction, by its form (Gray Paper 0.7.0, appendix A; the numbers of the forms are this project's own).
use Rattle.std.specs.Prelude.{◌≡◌, ℕ, ◌+◌, ◌-◌, ◌/◌, ◌%◌, ◌^◌, min, nat_lt, nat_le, List, get_or, if◌then◌else◌, Option, Some, None}
use Rattle.byte_numbers.specs.Numbers.{AreBytes, number_at}
use Rattle.byte_numbers.specs.Signs.{extended_bytes}
use Rattle.pvm_isa.specs.declared.arguments.Args.{Args}
use Rattle.pvm_isa.specs.declared.form.Form.{Form}
use Rattle.pvm_isa.specs.declared.form.Form.TheVariants.{F1, F2, F3, F4, F5, F6, F7, F8, F9, F10, F11, F12, F13}

-- a number is that of the eight bytes of a code at a place
pub record IsWindow (code : List ℕ) (place bytes : ℕ) : Type 0 where
  pub number : bytes ≡ number_at code place 8
  pub small : AreBytes code

-- the immediate in the n bytes of the code at a place, which have a sign
abbrev pub imm : List ℕ → ℕ → ℕ → ℕ
imm code place n = extended_bytes n (number_at code place n)

-- an immediate has at most 4 bytes
abbrev pub short : ℕ → ℕ
short n = min 4 n

-- the place at a distance whose 64 bits are signed; none below 0
abbrev pub offset : ℕ → ℕ → Option ℕ
offset place x = if nat_lt x (2 ^ 63) then Some (place + x) else if nat_le (2 ^ 64 - x) place then Some (place - (2 ^ 64 - x)) else None

-- the byte of the code at a place; past the code it is 0
abbrev pub code_byte : List ℕ → ℕ → ℕ
code_byte code place = get_or code place 0

-- the register of a number: one above 12 is cut to 12
abbrev pub register : ℕ → ℕ
register number = min 12 number

-- the low and the high half of the byte after the opcode
abbrev pub low : List ℕ → ℕ → ℕ
low code i = code_byte code (i + 1) % 16

abbrev pub high : List ℕ → ℕ → ℕ
high code i = code_byte code (i + 1) / 16

abbrev pub none : Args
none = record { a = 0; b = 0; d = 0; x = 0; y = 0; target = None }

-- the arguments of the instruction at i of the code, which L bytes follow before the next: registers A, B and D,
-- immediates X and Y as numbers of 64 bits, and a target. Where there are two immediates, lx is the length of X.
unfoldable pub arguments : Form → List ℕ → ℕ → ℕ → Args
arguments F1 c i L = none
arguments F2 c i L = record none { x = imm c (i + 1) (short L) }
arguments F3 c i L = record none { a = register (low c i); x = number_at c (i + 2) 8 }
arguments F4 c i L = let lx : ℕ = short (code_byte c (i + 1) % 8) in
    record none { x = imm c (i + 2) lx; y = imm c (i + 2 + lx) (short (L - (lx + 1))) }
arguments F5 c i L = record none { target = offset i (imm c (i + 1) (short L)) }
arguments F6 c i L = record none { a = register (low c i); x = imm c (i + 2) (short (L - 1)) }
arguments F7 c i L = let lx : ℕ = short (high c i % 8) in
    record none { a = register (low c i); x = imm c (i + 2) lx; y = imm c (i + 2 + lx) (short (L - (lx + 1))) }
arguments F8 c i L = let lx : ℕ = short (high c i % 8) in
    record none { a = register (low c i); x = imm c (i + 2) lx; target = offset i (imm c (i + 2 + lx) (short (L - (lx + 1)))) }
arguments F9 c i L = record none { a = register (high c i); d = register (low c i) }
arguments F10 c i L = record none { a = register (low c i); b = register (high c i); x = imm c (i + 2) (short (L - 1)) }
arguments F11 c i L = record none { a = register (low c i); b = register (high c i); target = offset i (imm c (i + 2) (short (L - 1))) }
arguments F12 c i L = let lx : ℕ = short (code_byte c (i + 2) % 8) in
    record none { a = register (low c i); b = register (high c i); x = imm c (i + 3) lx; y = imm c (i + 3 + lx) (short (L - (lx + 2))) }
arguments F13 c i L = record none { a = register (low c i); b = register (high c i); d = register (code_byte c (i + 2)) }
