use Rattle.std.proofs.Common.{refl}
use Rattle.byte_numbers.specs.Numbers.{little_endian}
use Rattle.host_general.proofs.inputs.constants.Goals as goal

pub returns : goal.returns
unfolding little_endian
returns c = refl
