use Rattle.std.proofs.Common.{◌≡◌, ◌+◌, ◌-◌, ◌/◌, ◌%◌, ℕ, List, ap, ◌∙◌, arith}
use Rattle.pvm_isa.specs.Arguments.{arguments, high, imm, low, offset, register, short}
use Rattle.pvm_isa.proofs.windows.register_immediate_and_offset_in.Goals as goal

pub returns-clause-arguments : goal.returns-clause-arguments
unfolding arguments
returns-clause-arguments c =
    let code : List ℕ = c.args.code.now in
    let pc : ℕ = c.args.pc in
    let size : c.first_length-size.result ≡ short (high code pc % 8) =
    c.first_length-size.ensures.value ∙ ap (λ (b : ℕ). short (b / 16 % 8)) (c.second.ensures code pc c.requires.window) in
    let left : c.min-left.result ≡ short (c.args.skip - (short (high code pc % 8) + 1)) = omega (arith, size) in
    let place : pc + (2 + c.first_length-size.result) ≡ pc + 2 + short (high code pc % 8) = omega (arith, size) in
    let a : c.low_register.result ≡ register (low code pc) = c.low_register.ensures.value code pc c.requires.window in
    let x : c.immediate_at.result ≡ imm code (pc + 2) (short (high code pc % 8)) = c.immediate_at.ensures code pc c.requires.window ∙ ap (imm code (pc + 2)) size in
    let distance : c.immediate_at-2.result ≡ imm code (pc + 2 + short (high code pc % 8)) (short (c.args.skip - (short (high code pc % 8) + 1))) =
    c.immediate_at-2.ensures code pc c.requires.window ∙ (λ i. imm code (place i) (left i)) in
    let target : c.at_distance.result ≡ offset pc (imm code (pc + 2 + short (high code pc % 8)) (short (c.args.skip - (short (high code pc % 8) + 1)))) =
    c.at_distance.ensures ∙ ap (offset pc) distance in
    λ i. record { a = a i; b = 0; d = 0; x = x i; y = 0; target = target i }
