-- The opcodes that end a block (Gray Paper 0.7.0, appendix A).
use Rattle.std.specs.Prelude.{Bool, true, false}
use Rattle.pvm_isa.specs.declared.op.Op.{Op}
use Rattle.pvm_isa.specs.declared.op.Op.TheVariants.{Trap, Fallthrough, Jump, JumpInd, LoadImmJump, BranchEqImm, BranchNeImm, BranchLtUImm, BranchLeUImm, BranchGeUImm, BranchGtUImm, BranchLtSImm, BranchLeSImm, BranchGeSImm, BranchGtSImm, BranchEq, BranchNe, BranchLtU, BranchLtS, BranchGeU, BranchGeS, LoadImmJumpInd}

-- trap, fallthrough, the jumps and the branches
unfoldable pub is_terminator : Op → Bool
is_terminator Trap = true
is_terminator Fallthrough = true
is_terminator Jump = true
is_terminator JumpInd = true
is_terminator LoadImmJump = true
is_terminator BranchEqImm = true
is_terminator BranchNeImm = true
is_terminator BranchLtUImm = true
is_terminator BranchLeUImm = true
is_terminator BranchGeUImm = true
is_terminator BranchGtUImm = true
is_terminator BranchLtSImm = true
is_terminator BranchLeSImm = true
is_terminator BranchGeSImm = true
is_terminator BranchGtSImm = true
is_terminator BranchEq = true
is_terminator BranchNe = true
is_terminator BranchLtU = true
is_terminator BranchLtS = true
is_terminator BranchGeU = true
is_terminator BranchGeS = true
is_terminator LoadImmJumpInd = true
is_terminator _ = false
