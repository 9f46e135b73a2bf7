use Rattle.std.proofs.Common.{ℕ, ap, ◌∙◌, arith}
use Rattle.pvm_isa.proofs.Table.{row, row-numbered}
use Rattle.pvm_isa.proofs.opcodes.op_or_trap.Goals as goal

pub returns : goal.returns
returns c = ap (λ (k : ℕ). (row k).0) c.from.ensures ∙ row-numbered c.args.byte (omega arith)
