use Rattle.std.proofs.Common.{ℕ, ap, ◌∙◌}
use Rattle.pvm_isa.proofs.Table.{Row, row, listed}
use Rattle.pvm_isa.proofs.opcodes.form_of.Goals as goal

pub returns : goal.returns
returns c = ap (λ (k : ℕ). (row k).1) (c.from.ensures ∙ c.number_of.ensures) ∙ ap (λ (r : Row). r.1) (listed c.args.op)
