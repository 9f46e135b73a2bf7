use Rattle.std.proofs.Common.{◌≡◌, ◌+◌, ◌-◌, ◌%◌, ◌^◌, ℕ, ap, ◌∙◌, arith}
use Rattle.byte_numbers.specs.Signs.{extended_bytes}
use Rattle.pvm_isa.specs.Arguments.{arguments, short}
use Rattle.pvm_isa.specs.WindowLaws.{half-imm}
use Rattle.pvm_isa.proofs.windows.short_immediate_in.Goals as goal

pub returns : goal.returns
unfolding arguments
returns c = λ code pc is.
    let x = c.immediate_after_registers.ensures code pc is in
    ap (λ (k : ℕ). extended_bytes 4 (k % 2 ^ 32)) x ∙ half-imm code (pc + 2) (short (c.args.skip - 1)) is.small (omega arith)
