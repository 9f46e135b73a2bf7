use Rattle.std.proofs.Common.{◌≡◌, ◌+◌, ◌-◌, ◌∙◌, ap, arith}
use Rattle.pvm_isa.specs.Arguments.{imm, short}
use Rattle.pvm_isa.proofs.windows.immediate_after_registers.Goals as goal

pub returns : goal.returns
returns c = λ code place is.
    let size : c.min.result ≡ short (c.args.skip - 1) = omega arith in
    c.immediate_at.ensures code place is ∙ ap (imm code (place + 2)) size
