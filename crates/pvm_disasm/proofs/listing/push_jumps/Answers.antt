use Rattle.std.proofs.Common.{[], ◌∷◌, ◌++◌, codes, decimal, ap, ◌∙◌, arith, string_bytes}
use Rattle.pvm_disasm.proofs.Texts.{blanks-listed, no-blanks}
use Rattle.pvm_disasm.proofs.listing.push_jumps.Goals as goal

pub returns-in_ok-writeln : goal.returns-in_ok-writeln
returns-in_ok-writeln c =
    blanks-listed (string_bytes c.args.text.now) (string_bytes c.writeln.new.self) c.args.program.now.jumps c.args.program.now.width (omega arith) (omega arith)
    (c.in_ok-writeln.ensures.bytes ∙ ap (λ n. string_bytes c.args.text.now ++ (codes ".jumps " ++ (decimal n ++ (10 ∷ [])))) c.jump_count-count.ensures)

pub returns-else-count-gt0 : goal.returns-else-count-gt0
returns-else-count-gt0 c = no-blanks (string_bytes c.args.text.now) c.args.program.now.jumps c.args.program.now.width (omega arith) (omega arith)
