use Rattle.std.proofs.Common.{◌≡◌, ◌%◌, ◌^◌, ap, ◌∙◌, arith}
use Rattle.byte_numbers.specs.Signs.{extended_bytes}
use Rattle.pvm_isa.proofs.windows.extended.Goals as goal

pub returns : goal.returns
returns c =
    let half : c.from.result % 2 ^ 32 ≡ c.args.half = omega (arith, c.from.ensures) in
    c.with_sign.ensures ∙ ap (extended_bytes 4) half
