use Rattle.std.proofs.Common.{◌≡◌, ◌+◌, ◌/◌, ◌%◌, ℕ, ap, ◌∙◌}
use Rattle.pvm_isa.specs.Arguments.{arguments, high, imm, short}
use Rattle.pvm_isa.proofs.windows.immediate_before_offset_in.Goals as goal

pub returns : goal.returns
unfolding arguments
returns c = λ code pc skip is.
    let size : c.first_length.result ≡ short (high code pc % 8) = c.first_length.ensures.value ∙ ap (λ (b : ℕ). short (b / 16 % 8)) (c.second.ensures code pc is) in
    c.immediate_at.ensures code pc is ∙ ap (imm code (pc + 2)) size
