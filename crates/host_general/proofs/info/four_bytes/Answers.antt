use Rattle.std.proofs.Common.{◌∙◌}
use Rattle.byte_numbers.specs.NumberLaws.{bytes-little_endian}
use Rattle.host_general.proofs.info.four_bytes.Goals as goal

pub returns : goal.returns
returns c = c.to_le_bytes.ensures ∙ bytes-little_endian 4 c.args.number
