use Rattle.std.proofs.Common.{◌∙◌, ap}
use Rattle.std.specs.Int.{bytes_low_first}
use Rattle.jam_codec.proofs.Spelled.{natural_in_array}
use Rattle.jam_codec.proofs.writing.spell_natural.Goals as goal

pub returns-clause-spelled : goal.returns-clause-spelled
returns-clause-spelled c =
    natural_in_array c.tail_for-length.result c.args.x c.first_byte.result c.copy_from_slice.new.self c.tail_for-length.ensures c.first_byte.ensures
    (c.copy_from_slice.ensures.after ∙ c.to_le_bytes.ensures ∙ ap (bytes_low_first 0 8) c.low_part.ensures)
