use Rattle.std.proofs.Common.{◌≡◌, ◌+◌, ℕ, ap, ◌∙◌, arith}
use Rattle.pvm_isa.specs.Arguments.{arguments, imm, offset, short}
use Rattle.pvm_isa.proofs.windows.target_of_offset_in.Goals as goal

pub returns : goal.returns
unfolding arguments
returns c = λ code is.
    let size : c.min.result ≡ short c.args.skip = omega arith in
    c.at_distance.ensures ∙ ap (offset c.args.pc) (c.immediate_at.ensures code c.args.pc is ∙ ap (imm code (c.args.pc + 1)) size)
