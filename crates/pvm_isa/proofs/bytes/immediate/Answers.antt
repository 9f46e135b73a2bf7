use Rattle.std.proofs.Common.{ℕ, ◌*◌, ◌%◌, ◌^◌, ap, ◌∙◌, arith}
use Rattle.byte_numbers.specs.NumberLaws.{number_at-few}
use Rattle.byte_numbers.specs.Signs.{extended_bytes}
use Rattle.pvm_isa.proofs.bytes.immediate.Goals as goal

pub returns : goal.returns
returns c =
    c.with_sign.ensures
    ∙ ap (λ (k : ℕ). extended_bytes c.args.size (k % 2 ^ (8 * c.args.size))) c.eight_bytes.ensures
    ∙ ap (extended_bytes c.args.size) (number_at-few 8 c.args.code.now c.args.place c.args.size (omega (arith, c.requires.short)) (λ k. omega (arith, c.type_inv.code k)))
