use Rattle.std.proofs.Common.{ℕ, ◌+◌, ◌-◌, ◌*◌, ◌/◌, ◌^◌, length, ap, ◌∙◌, arith}
use Rattle.byte_numbers.specs.Numbers.{number_at}
use Rattle.pvm_isa.proofs.Numbers.{later-past}
use Rattle.pvm_isa.proofs.bytes.eight_near_end.Goals as goal

pub returns : goal.returns
returns c =
    let size : ℕ = length c.args.code.now in
    let past : ℕ = c.args.place + 8 - size in
    ap (λ (x : ℕ). x / 2 ^ (8 * past)) c.eight_at.ensures
    ∙ later-past c.args.code.now (size - 8) past (λ k. omega (arith, c.type_inv.code k)) (omega (arith, c.if-size-lt8.false))
    ∙ ap (λ (k : ℕ). number_at c.args.code.now k 8) (omega (arith, c.requires.near, c.if-size-lt8.false))
