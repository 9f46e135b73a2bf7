use Rattle.std.proofs.Common.{arith, sym}
use Rattle.jam_codec.specs.NaturalLaws.{tail_length-next}
use Rattle.jam_codec.proofs.writing.tail_for.Goals as goal

pub returns-else-least_natural-x : goal.returns-else-least_natural-x
returns-else-least_natural-x c =
    sym (tail_length-next c.loop-length.length c.args.x (omega arith) (omega arith) c.loop-length.invariant.least (omega (arith, c.least_natural.ensures)))
