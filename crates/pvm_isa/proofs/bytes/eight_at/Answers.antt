use Rattle.std.proofs.Common.{◌∙◌}
use Rattle.pvm_isa.proofs.Numbers.{eight}
use Rattle.pvm_isa.proofs.bytes.eight_at.Goals as goal

pub returns : goal.returns
returns c = c.from_le_bytes.ensures ∙ eight c.args.code.now c.args.from
