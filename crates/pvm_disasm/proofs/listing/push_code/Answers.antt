use Rattle.std.proofs.Common.{◌++◌, take, ap, ◌∙◌, string_bytes}
use Rattle.std.proofs.lemmas.Result.{on_ok_weaker}
use Rattle.pvm_disasm.specs.Listing.{lead_lines, lines_text}
use Rattle.pvm_disasm.proofs.Texts.{code-listed}
use Rattle.pvm_disasm.proofs.listing.push_code.Goals as goal

pub returns : goal.returns
returns c = on_ok_weaker c.push_units.result (λ e.
    code-listed (string_bytes c.args.text.now) (string_bytes c.push_lead.new.text) (string_bytes c.push_units.new.text) c.args.program.now.mask c.args.program.now.code c.next_unit-first.result
    c.next_unit-first.ensures.end c.next_unit-first.ensures.lead c.next_unit-first.ensures.units
    (c.in_ok-push_lead.ensures ∙ ap (λ cs. string_bytes c.args.text.now ++ lines_text (lead_lines (take c.next_unit-first.result cs))) c.code.ensures.value) e) c.push_units.ensures
