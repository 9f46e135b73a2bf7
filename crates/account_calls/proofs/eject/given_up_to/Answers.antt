use Rattle.std.proofs.Common.{ap, ◌∙◌, ◌++◌, replicate, List, ℕ}
use Rattle.byte_numbers.specs.NumberLaws.{bytes-little_endian}
use Rattle.account_calls.proofs.eject.given_up_to.Goals as goal

pub returns : goal.returns
returns c = ap (λ (front : List ℕ). front ++ replicate 28 0) (c.copy_from_slice.ensures.after ∙ c.to_le_bytes.ensures ∙ bytes-little_endian 4 c.args.service)
