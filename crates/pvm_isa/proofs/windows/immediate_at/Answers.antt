use Rattle.std.proofs.Common.{◌∙◌}
use Rattle.pvm_isa.specs.WindowLaws.{window-imm}
use Rattle.pvm_isa.proofs.windows.immediate_at.Goals as goal

pub returns : goal.returns
returns c = λ code place is.
    c.with_sign.ensures ∙ window-imm code place c.args.bytes c.args.from c.args.size is c.requires.few c.requires.within
