-- The laws of formats, for whoever puts formats together: of each field, of each way to join them, of whole files, and of what a
-- reading function answers.
pub use Rattle.jam_codec.specs.FieldLaws.{natural_laws, fixed_laws, bytes_laws, bits_laws, numbers_laws}
pub use Rattle.jam_codec.specs.JoinLaws.{chain_ok, chain_err, ok_parts, passing_ok, passing_err, read_here, one_value, both_laws, Same, same_laws, by_laws, times_laws, length-items, one_spelling, no_prefix}
pub use Rattle.jam_codec.specs.ListLaws.{blob_laws, list_laws, entry_laws, map_laws, fin_map_laws, blob_after_laws, blob_by_after_laws, number_after_laws, hash_and_number_laws, Rises, blob_rises, blob_by_rises, number_rises, hash_and_number_rises, hash_and_number_total, nothing_laws, option_laws, behind_one_laws, behind_one_some, none_spelled, less_from, and_holds, left_holds, right_holds, less_holds, holds_less, below_lower}
pub use Rattle.jam_codec.specs.WholeLaws.{whole-found, whole-again, whole-refused, file_laws, by_file_laws, tail_laws, tail_prefix, refused-none, one_spelling_of_file}
pub use Rattle.jam_codec.specs.NumberListLaws.{items_at-numbers, items_at-numbers_front, items_at-missing}
