use Rattle.std.proofs.Common.{◌≡◌, ◌≤◌, ◌<◌, ◌-◌, [], ◌∷◌, ◌++◌, ℕ, length, take, drop, ap, ◌∙◌, arith, string_bytes}
use Rattle.pvm_disasm.specs.Units.{unit_line}
use Rattle.pvm_disasm.specs.Listing.{code_units, unit_lines, lines_text}
use Rattle.pvm_disasm.proofs.Walks.{unit-is, units-more, units-all}
use Rattle.pvm_disasm.proofs.listing.push_units.Goals as goal

pub units-preserved : goal.units-preserved
units-preserved c =
    let within : c.units.place < length c.args.program.now.code = omega (arith, ap length c.code-code.ensures.value) in
    let end : ℕ = c.next_unit-end.result in
    let split = unit-is c.args.program.now.mask c.args.program.now.code c.units.place end c.code-code.ensures.masked within (c.units.invariant.begins within)
    c.next_unit-end.ensures.from c.next_unit-end.ensures.lead c.next_unit-end.ensures.units in
    let line : c.as_str-line.result.now ≡ unit_line c.units.place (take (end - c.units.place) (drop c.units.place c.args.program.now.code)) =
    c.as_str-line.ensures.value ∙ c.in_ok-write.ensures ∙ ap (λ cs. unit_line c.units.place (take (end - c.units.place) (drop c.units.place cs))) c.code-code.ensures.value in
    record {
      listed = units-more (string_bytes c.units.text) (string_bytes c.writeln.new.self)
          (string_bytes c.args.text.now ++ lines_text (unit_lines c.args.from (code_units (drop c.args.from c.args.program.now.mask) (drop c.args.from c.args.program.now.code))))
          c.args.program.now.mask c.args.program.now.code c.units.place end split (omega (arith, c.next_unit-end.ensures.from)) c.next_unit-end.ensures.end c.units.invariant.listed
          (c.in_ok-writeln.ensures.bytes ∙ ap (λ l. string_bytes c.units.text ++ (l ++ (10 ∷ []))) line);
      end = c.next_unit-end.ensures.end;
      begins = c.next_unit-end.ensures.begins;
    }

pub returns : goal.returns
returns c =
    let past : length c.args.program.now.code ≤ c.units.place = omega (arith, ap length c.code-code.ensures.value) in
    units-all (string_bytes c.units.text)
    (string_bytes c.args.text.now ++ lines_text (unit_lines c.args.from (code_units (drop c.args.from c.args.program.now.mask) (drop c.args.from c.args.program.now.code))))
    c.args.program.now.mask c.args.program.now.code c.units.place past c.units.invariant.listed
