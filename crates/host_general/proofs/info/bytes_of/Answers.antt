use Rattle.std.proofs.Common.{◌∙◌}
use Rattle.byte_numbers.specs.NumberLaws.{bytes-little_endian}
use Rattle.host_general.proofs.info.bytes_of.Goals as goal

pub returns : goal.returns
returns c = c.to_le_bytes.ensures ∙ bytes-little_endian 8 c.args.number
