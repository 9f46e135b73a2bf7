use Rattle.std.proofs.Common.{arith, eqb-true, length, sym, ap, ◌∙◌, ◌≡◌, List, ℕ}
use Rattle.byte_numbers.specs.Numbers.{AreBytes, little_number, little_endian}
use Rattle.byte_numbers.specs.NumberLaws.{little_from-whole, little_number-below, little_endian-little_number, little_endian-none}
use Rattle.jam_codec.proofs.natural.number_of.Goals as goal

pub returns-then-is_empty-clause-spelled : goal.returns-then-is_empty-clause-spelled
returns-then-is_empty-clause-spelled c = little_endian-none c.args.bytes.now (eqb-true (length c.args.bytes.now) 0 (sym c.is_empty.ensures ∙ c.if-is_empty.true))

pub returns : goal.returns
returns c =
    let bytes : List ℕ = c.args.bytes.now in
    let are : AreBytes bytes = λ k. omega (arith, c.type_inv.bytes k) in
    let value : c.read_uint.result ≡ little_number bytes = c.read_uint.ensures ∙ little_from-whole bytes in
    record {
      value = value;
      below = omega (arith, value, little_number-below bytes are);
      spelled = ap (little_endian (length bytes)) value ∙ little_endian-little_number bytes are;
    }
