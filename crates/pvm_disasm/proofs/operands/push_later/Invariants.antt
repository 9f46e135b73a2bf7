use Rattle.std.proofs.Common.{◌≡◌, ◌++◌, drop, map, string_bytes}
use Rattle.pvm_disasm.specs.Units.{operand_text, later_operands}
use Rattle.pvm_disasm.proofs.operands.push_later.Given as goal

abbrev pub invariant-loop-operand : goal.invariant-loop-operand
invariant-loop-operand l =
    string_bytes l.line ++ later_operands (map (operand_text l.args l.to) (drop l.operand-index l.operands))
    ≡ string_bytes l.fn.line ++ later_operands (map (operand_text l.args l.to) l.operands)
