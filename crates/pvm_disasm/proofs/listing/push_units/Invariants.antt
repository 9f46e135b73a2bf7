use Rattle.std.proofs.Common.{◌≡◌, ◌≤◌, ◌<◌, ◌-◌, ◌++◌, length, drop, true, string_bytes}
use Rattle.blob_decode.specs.Program.{mask_bit}
use Rattle.pvm_disasm.specs.Listing.{code_units, unit_lines, lines_text}
use Rattle.pvm_disasm.proofs.listing.push_units.Given as goal

abbrev pub invariant-units : goal.invariant-units
invariant-units l = record {
  listed : string_bytes l.text ++ lines_text (unit_lines l.place (code_units (drop l.place l.program.mask) (drop l.place l.program.code)))
      ≡ string_bytes l.fn.text ++ lines_text (unit_lines l.from (code_units (drop l.from l.program.mask) (drop l.from l.program.code)));
  end : l.place ≤ length l.program.code;
  begins : l.place < length l.program.code → mask_bit l.program l.place ≡ true;
}

abbrev pub decreases-units : goal.decreases-units
decreases-units l = length l.program.code - l.place
