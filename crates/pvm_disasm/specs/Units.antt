-- The lines of a listing that stand for units: by name, or in bytes (this project's own).
use Rattle.std.specs.Prelude.{ℕ, ◌-◌, ◌^◌, min, nat_lt, Bool, false, List, [], ◌∷◌, ◌++◌, length, get_or, map, codes, decimal, if◌then◌else◌, Option, Some, None}
use Rattle.std.specs.List.{find}
use Rattle.std.specs.Option.{option_and_then, unwrap_or}
use Rattle.std.specs.Str.{bytes_eq}
use Rattle.hex.specs.Hex.{encode_lower}
use Rattle.pvm_isa.specs.declared.arguments.Args.{Args}
use Rattle.pvm_isa.specs.declared.form.Form.{Form}
use Rattle.pvm_isa.specs.declared.form.Form.TheVariants.{F2, F5, F7, F8, F10, F11}
use Rattle.pvm_isa.specs.declared.op.Op.{Op}
use Rattle.pvm_isa.specs.Opcodes.{form_of, name_of, op_numbered}
use Rattle.pvm_isa.specs.Arguments.{arguments, offset}
use Rattle.pvm_asm.specs.declared.instruction.Operand.{Operand}
use Rattle.pvm_asm.specs.declared.instruction.Operand.TheVariants.{A, B, D, X, Y, T}
use Rattle.pvm_asm.specs.Statements.{form_operands, read_line}
use Rattle.pvm_asm.specs.Alone.{line_code}
use Rattle.pvm_disasm.specs.declared.operands.Destination.{Destination}
use Rattle.pvm_disasm.specs.declared.operands.Destination.TheVariants.{Place, Offset}

-- ---- Operands

-- an offset is spelled as an immediate is: forms 5, 8 and 11 are forms 2, 7 and 10 with an immediate in its place
abbrev pub spelled_form : Form → Form
spelled_form F5 = F2
spelled_form F8 = F7
spelled_form F11 = F10
spelled_form form = form

-- the arguments of a unit as an instruction alone, with its offset as an immediate
abbrev pub unit_args : Op → List ℕ → Args
unit_args op unit = arguments (spelled_form (form_of op)) unit 0 (min 24 (length unit - 1))

-- how far the target is from the instruction, as a number of 64 bits; 0 where the form has none
abbrev pub offset_in : Form → Args → ℕ
offset_in F5 args = args.x
offset_in F8 args = args.y
offset_in F11 args = args.x
offset_in form args = 0

-- a register, a number of 64 bits with its sign, a target
abbrev pub register_text : ℕ → List ℕ
register_text number = 114 ∷ decimal number

abbrev pub signed_text : ℕ → List ℕ
signed_text x = if nat_lt x (2 ^ 63) then decimal x else 45 ∷ decimal (2 ^ 64 - x)

abbrev pub destination_text : Destination → List ℕ
destination_text (Place place) = 61 ∷ decimal place
destination_text (Offset x) = if nat_lt x (2 ^ 63) then 43 ∷ decimal x else 45 ∷ decimal (2 ^ 64 - x)

abbrev pub operand_text : Args → Destination → Operand → List ℕ
operand_text args to A = register_text args.a
operand_text args to B = register_text args.b
operand_text args to D = register_text args.d
operand_text args to X = signed_text args.x
operand_text args to Y = signed_text args.y
operand_text args to T = destination_text to

-- a blank before the first operand, a comma and a blank before each other
abbrev pub later_operands : List (List ℕ) → List ℕ
later_operands [] = []
later_operands (operand ∷ operands) = 44 ∷ (32 ∷ (operand ++ later_operands operands))

abbrev pub operands_text : List (List ℕ) → List ℕ
operands_text [] = []
operands_text (operand ∷ operands) = 32 ∷ (operand ++ later_operands operands)

-- an instruction by name
unfoldable pub instruction_text : Op → Args → Destination → List ℕ
instruction_text op args to = name_of op ++ operands_text (map (operand_text args to) (form_operands (form_of op)))

-- ---- Units

abbrev pub is_unit_given : List ℕ → Option (List ℕ) → Bool
is_unit_given unit None = false
is_unit_given unit (Some given) = bytes_eq given unit

-- a line assembles to the bytes of a unit at a place
abbrev pub assembles : ℕ → List ℕ → List ℕ → Bool
assembles place unit line = is_unit_given unit (line_code place (read_line line))

-- the ways to write a target so far from a place: as a place, where it is not below 0, and then as an offset
abbrev pub place_first : Option ℕ → ℕ → List Destination
place_first None x = Offset x ∷ []
place_first (Some place) x = Place place ∷ (Offset x ∷ [])

abbrev pub destinations : ℕ → ℕ → List Destination
destinations place x = place_first (offset place x) x

-- the first of these lines that assembles to the unit
abbrev pub named_line : ℕ → List ℕ → Op → Option (List ℕ)
named_line place unit op =
    find (assembles place unit) (map (instruction_text op (unit_args op unit)) (destinations place (offset_in (form_of op) (unit_args op unit))))

-- the name of an opcode, if it is one
abbrev pub op_text : Option Op → List ℕ
op_text None = codes "?"
op_text (Some op) = name_of op

-- a unit in bytes, with the name of its first byte in a comment
abbrev pub byte_line : List ℕ → Option Op → List ℕ
byte_line unit op = codes ".unit " ++ (encode_lower unit ++ (codes " # " ++ op_text op))

-- the line of a unit at a place: by name where that line assembles to it, else in bytes
abbrev pub line_by : ℕ → List ℕ → Option Op → List ℕ
line_by place unit op = unwrap_or (option_and_then (named_line place unit) op) (byte_line unit op)

unfoldable pub unit_line : ℕ → List ℕ → List ℕ
unit_line place unit = line_by place unit (op_numbered (get_or unit 0 0))
