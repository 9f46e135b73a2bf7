use Rattle.std.proofs.Common.{[], ◌∷◌, ◌++◌, codes, decimal, ap, ◌∙◌, string_bytes}
use Rattle.pvm_disasm.proofs.Texts.{all-listed}
use Rattle.pvm_disasm.proofs.listing.list_program.Goals as goal

pub returns : goal.returns
returns c =
    all-listed c.args.program.now (string_bytes c.write.new.self) (string_bytes c.push_jumps.new.text) (string_bytes c.push_code.new.text)
    (c.in_ok-write.ensures.bytes ∙ ap (λ t. t ++ (codes ".raw\n.width " ++ (decimal c.width-width.result ++ (10 ∷ [])))) c.new-text.ensures.bytes
    ∙ ap (λ n. codes ".raw\n.width " ++ (decimal n ++ (10 ∷ []))) c.width-width.ensures)
    c.in_ok-push_jumps.ensures c.in_ok-push_code.ensures
