-- The bytes of a listing's lines: none is a line feed or a carriage return, and those of words are no blanks, commas or `#`.
use Rattle.std.proofs.Common.{◌≡◌, ◌≤◌, ℕ, zero, suc, ◌+◌, ◌-◌, ◌/◌, ◌%◌, ◌^◌, true, false, ◌==◌, nat_lt, nat_le, List, [], ◌∷◌, ◌++◌, get_or, map, codes, decimal, Option, Some, None, refl, arith}
use Rattle.std.specs.List.{list_all}
use Rattle.std.specs.Option.{unwrap_or}
use Rattle.std.specs.Fmt.{digits, digits_onto, digit_glyph}
use Rattle.std.proofs.lemmas.Bool.{and_from, le-leb, leb-true, cond_both}
use Rattle.std.proofs.lemmas.Bool.Decides.{nat_tests}
use Rattle.byte_numbers.specs.Numbers.{AreBytes}
use Rattle.hex.specs.Hex.{encode_lower}
use Rattle.pvm_isa.specs.declared.arguments.Args.{Args}
use Rattle.pvm_isa.specs.declared.op.Op.{Op}
use Rattle.pvm_isa.specs.declared.op.Op.TheVariants.{Trap}
use Rattle.pvm_isa.specs.Opcodes.{entry, name_of, form_of, op_numbered}
use Rattle.pvm_asm.specs.declared.instruction.Operand.{Operand}
use Rattle.pvm_asm.specs.declared.instruction.Operand.TheVariants.{A, B, D, X, Y, T}
use Rattle.pvm_asm.specs.Statements.{form_operands}
use Rattle.pvm_asm.specs.Numbers.{is_digit}
use Rattle.pvm_disasm.specs.declared.operands.Destination.{Destination}
use Rattle.pvm_disasm.specs.declared.operands.Destination.TheVariants.{Place, Offset}
use Rattle.pvm_disasm.specs.Units.{signed_text, destination_text, operand_text, later_operands, operands_text, instruction_text, destinations, offset_in, unit_args, named_line, assembles, op_text, byte_line, line_by, unit_line}
use Rattle.pvm_disasm.proofs.Lists.{all-weaker, all-append, found-holds}
use Rattle.pvm_disasm.proofs.Digits.{IsHex, hex-is}

-- bytes of words
abbrev pub IsDense : List ℕ → Type 0
IsDense xs = list_all (nat_le 45) xs ≡ true

-- bytes of lines
abbrev pub IsPlain : List ℕ → Type 0
IsPlain xs = list_all (nat_le 32) xs ≡ true

pub plain-from_dense : (xs : List ℕ) → IsDense xs → IsPlain xs
plain-from_dense xs h = all-weaker (nat_le 45) (nat_le 32) (λ b e. le-leb 32 b (omega (arith, leb-true 45 b e))) xs h

pub plain-append : (xs ys : List ℕ) → IsPlain xs → IsPlain ys → IsPlain (xs ++ ys)
plain-append xs ys h k = all-append (nat_le 32) xs ys h k

pub plain-cons : (b : ℕ) (xs : List ℕ) → 32 ≤ b → IsPlain xs → IsPlain (b ∷ xs)
plain-cons b xs low h = and_from (nat_le 32 b) (list_all (nat_le 32) xs) (le-leb 32 b low) h

-- ---- Numbers and bytes

glyph-dense : (d : ℕ) → nat_le 45 (digit_glyph false d) ≡ true
glyph-dense d = cond_both (nat_lt d 10) (48 + d) (87 + d) (λ g. nat_le 45 g ≡ true) (λ e. le-leb 45 (48 + d) (omega arith)) (λ e. le-leb 45 (87 + d) (omega arith))

onto-dense : (k n : ℕ) (acc : List ℕ) → IsDense acc → IsDense (digits_onto k 10 false n acc)
onto-dense zero n acc h = h
onto-dense (suc k) n acc h =
    let more : IsDense (digit_glyph false (n % 10) ∷ acc) = and_from (nat_le 45 (digit_glyph false (n % 10))) (list_all (nat_le 45) acc) (glyph-dense (n % 10)) h in
    cond_both (n / 10 == 0) (digit_glyph false (n % 10) ∷ acc) (digits_onto k 10 false (n / 10) (digit_glyph false (n % 10) ∷ acc)) IsDense
    (λ e. more) (λ e. onto-dense k (n / 10) (digit_glyph false (n % 10) ∷ acc) more)

pub decimal-dense : (n : ℕ) → IsDense (decimal n)
unfolding digits
decimal-dense n = onto-dense 64 n [] refl

hex-digit-dense : (b : ℕ) → is_digit 16 b ≡ true → nat_le 45 b ≡ true
hex-digit-dense b h = grind (arith, nat_tests)

pub hex-dense : (bytes ds : List ℕ) → IsHex bytes ds → IsDense ds
hex-dense bytes ds h = all-weaker (is_digit 16) (nat_le 45) hex-digit-dense ds h.digits

-- ---- Names

-- computed once for each opcode
pub name-dense : (op : Op) → IsDense (name_of op)
unfolding entry
name-dense Trap = refl
name-dense _ = refl

-- ---- Lines

signed-plain : (x : ℕ) → IsPlain (signed_text x)
signed-plain x = cond_both (nat_lt x (2 ^ 63)) (decimal x) (45 ∷ decimal (2 ^ 64 - x)) IsPlain
    (λ e. plain-from_dense (decimal x) (decimal-dense x))
    (λ e. plain-cons 45 (decimal (2 ^ 64 - x)) (omega arith) (plain-from_dense (decimal (2 ^ 64 - x)) (decimal-dense (2 ^ 64 - x))))

marked-plain : (mark n : ℕ) → 32 ≤ mark → IsPlain (mark ∷ decimal n)
marked-plain mark n low = plain-cons mark (decimal n) low (plain-from_dense (decimal n) (decimal-dense n))

destination-plain : (to : Destination) → IsPlain (destination_text to)
destination-plain (Place place) = marked-plain 61 place (omega arith)
destination-plain (Offset x) = cond_both (nat_lt x (2 ^ 63)) (43 ∷ decimal x) (45 ∷ decimal (2 ^ 64 - x)) IsPlain
    (λ e. marked-plain 43 x (omega arith)) (λ e. marked-plain 45 (2 ^ 64 - x) (omega arith))

operand-plain : (args : Args) (to : Destination) (operand : Operand) → IsPlain (operand_text args to operand)
operand-plain args to A = marked-plain 114 args.a (omega arith)
operand-plain args to B = marked-plain 114 args.b (omega arith)
operand-plain args to D = marked-plain 114 args.d (omega arith)
operand-plain args to X = signed-plain args.x
operand-plain args to Y = signed-plain args.y
operand-plain args to T = destination-plain to

later-plain : (args : Args) (to : Destination) (operands : List Operand) → IsPlain (later_operands (map (operand_text args to) operands))
later-plain args to [] = refl
later-plain args to (operand ∷ operands) =
    let later : List ℕ = later_operands (map (operand_text args to) operands) in
    let text : List ℕ = operand_text args to operand ++ later in
    plain-cons 44 (32 ∷ text) (omega arith) (plain-cons 32 text (omega arith) (plain-append (operand_text args to operand) later (operand-plain args to operand) (later-plain args to operands)))

operands-plain : (args : Args) (to : Destination) (operands : List Operand) → IsPlain (operands_text (map (operand_text args to) operands))
operands-plain args to [] = refl
operands-plain args to (operand ∷ operands) =
    let later : List ℕ = later_operands (map (operand_text args to) operands) in
    plain-cons 32 (operand_text args to operand ++ later) (omega arith) (plain-append (operand_text args to operand) later (operand-plain args to operand) (later-plain args to operands))

pub instruction-plain : (op : Op) (args : Args) (to : Destination) → IsPlain (instruction_text op args to)
unfolding instruction_text
instruction-plain op args to = plain-append (name_of op) (operands_text (map (operand_text args to) (form_operands (form_of op)))) (plain-from_dense (name_of op) (name-dense op)) (operands-plain args to (form_operands (form_of op)))

op-plain : (op : Option Op) → IsPlain (op_text op)
op-plain None = refl
op-plain (Some op) = plain-from_dense (name_of op) (name-dense op)

pub bytes-plain : (unit : List ℕ) (op : Option Op) → AreBytes unit → IsPlain (byte_line unit op)
bytes-plain unit op are =
    plain-append (codes ".unit ") (encode_lower unit ++ (codes " # " ++ op_text op)) refl
    (plain-append (encode_lower unit) (codes " # " ++ op_text op) (plain-from_dense (encode_lower unit) (hex-dense unit (encode_lower unit) (hex-is unit are)))
    (plain-append (codes " # ") (op_text op) refl (op-plain op)))

or-plain : (found : Option (List ℕ)) (other : List ℕ) → ((line : List ℕ) → found ≡ Some line → IsPlain line) → IsPlain other → IsPlain (unwrap_or found other)
or-plain None other h k = k
or-plain (Some line) other h k = h line refl

line-plain : (place : ℕ) (unit : List ℕ) (op : Option Op) → AreBytes unit → IsPlain (line_by place unit op)
line-plain place unit None are = bytes-plain unit None are
line-plain place unit (Some op) are =
    or-plain (named_line place unit op) (byte_line unit (Some op))
    (λ line e. found-holds IsPlain (assembles place unit) (instruction_text op (unit_args op unit)) (instruction-plain op (unit_args op unit)) line (destinations place (offset_in (form_of op) (unit_args op unit))) e)
    (bytes-plain unit (Some op) are)

pub unit-plain : (place : ℕ) (unit : List ℕ) → AreBytes unit → IsPlain (unit_line place unit)
unfolding unit_line
unit-plain place unit are = line-plain place unit (op_numbered (get_or unit 0 0)) are
