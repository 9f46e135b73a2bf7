use Rattle.std.proofs.Common.{arith}
use Rattle.jam_codec.specs.Lists.{behind_one, with_tail}
use Rattle.jam_codec.specs.Laws.{IsFileFormat}
use Rattle.jam_codec.specs.FormatLaws.{behind_one_laws, behind_one_some, tail_laws}
use Rattle.jam_fields.specs.AnswerLaws.{value_found, whole_none_spelled, longest_run}
use Rattle.jam_fields.proofs.file.read_file_with_tail.Goals as goal

pub returns : goal.returns
returns g c =
    let laws : IsFileFormat (with_tail g.T.Field.format (behind_one g.U.Field.format)) =
    tail_laws g.T.Field.format (behind_one g.U.Field.format) g.met.T.Field.is_format (behind_one_laws g.U.Field.format g.met.U.Field.is_format) (behind_one_some g.U.Field.format g.met.U.Field.is_format) in record {
      found = value_found (with_tail g.T.Field.format (behind_one g.U.Field.format)) laws c.args.bytes.now c.read_parts-parts.result (λ k. omega (arith, c.type_inv.bytes k)) c.read_parts-parts.ensures;
      refused = whole_none_spelled (with_tail g.T.Field.format (behind_one g.U.Field.format)) laws c.args.bytes.now c.read_parts-parts.result c.read_parts-parts.ensures;
      place = longest_run (with_tail g.T.Field.format (behind_one g.U.Field.format)) laws c.args.bytes.now c.read_parts-parts.result (λ k. omega (arith, c.type_inv.bytes k)) c.read_parts-parts.ensures;
    }
