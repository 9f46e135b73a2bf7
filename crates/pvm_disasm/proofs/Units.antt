-- The line of a unit gives the unit.
use Rattle.std.proofs.Common.{◌≡◌, ◌<◌, ℕ, true, List, length, get_or, map, Option, Some, None, refl, ap}
use Rattle.std.specs.Option.{unwrap_or}
use Rattle.std.proofs.lemmas.Slice.Eq.{bytes_eq-Decides}
use Rattle.byte_numbers.specs.Numbers.{AreBytes}
use Rattle.pvm_isa.specs.declared.op.Op.{Op}
use Rattle.pvm_isa.specs.Opcodes.{form_of, op_numbered}
use Rattle.pvm_asm.specs.Statements.{read_line}
use Rattle.pvm_asm.specs.Alone.{line_code}
use Rattle.pvm_disasm.specs.Units.{is_unit_given, assembles, instruction_text, destinations, offset_in, unit_args, named_line, byte_line, line_by, unit_line}
use Rattle.pvm_disasm.proofs.Lists.{found-passes}
use Rattle.pvm_disasm.proofs.Said.{reads-unit}

abbrev Gives : ℕ → List ℕ → List ℕ → Type 0
Gives place unit line = line_code place (read_line line) ≡ Some unit

given-is : (unit : List ℕ) (o : Option (List ℕ)) → is_unit_given unit o ≡ true → o ≡ Some unit
given-is unit None h = absurd (cc h)
given-is unit (Some given) h = ap Some ((bytes_eq-Decides given unit).0 h)

in-bytes : (place : ℕ) (unit : List ℕ) (op : Option Op) → AreBytes unit → 0 < length unit → Gives place unit (byte_line unit op)
in-bytes place unit op are some = ap (line_code place) (reads-unit unit op are some)

or-gives : (place : ℕ) (unit other : List ℕ) (found : Option (List ℕ)) → ((line : List ℕ) → found ≡ Some line → Gives place unit line) → Gives place unit other → Gives place unit (unwrap_or found other)
or-gives place unit other None h k = k
or-gives place unit other (Some line) h k = h line refl

line-gives : (place : ℕ) (unit : List ℕ) (op : Option Op) → AreBytes unit → 0 < length unit → Gives place unit (line_by place unit op)
line-gives place unit None are some = in-bytes place unit None are some
line-gives place unit (Some op) are some =
    or-gives place unit (byte_line unit (Some op)) (named_line place unit op)
    (λ line e. given-is unit (line_code place (read_line line)) (found-passes (assembles place unit) line (map (instruction_text op (unit_args op unit)) (destinations place (offset_in (form_of op) (unit_args op unit)))) e))
    (in-bytes place unit (Some op) are some)

pub unit-gives : (place : ℕ) (unit : List ℕ) → AreBytes unit → 0 < length unit → line_code place (read_line (unit_line place unit)) ≡ Some unit
unfolding unit_line
unit-gives place unit are some = line-gives place unit (op_numbered (get_or unit 0 0)) are some
