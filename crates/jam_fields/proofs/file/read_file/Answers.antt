use Rattle.std.proofs.Common.{arith}
use Rattle.jam_codec.specs.Laws.{IsFileFormat}
use Rattle.jam_codec.specs.FormatLaws.{file_laws}
use Rattle.jam_fields.specs.AnswerLaws.{value_found, whole_none_spelled, longest_run}
use Rattle.jam_fields.proofs.file.read_file.Goals as goal

pub returns : goal.returns
returns g c =
    let laws : IsFileFormat g.T.Field.format = file_laws g.T.Field.format g.met.T.Field.is_format in record {
      found = value_found g.T.Field.format laws c.args.bytes.now c.read_whole-value.result (λ k. omega (arith, c.type_inv.bytes k)) c.read_whole-value.ensures;
      refused = whole_none_spelled g.T.Field.format laws c.args.bytes.now c.read_whole-value.result c.read_whole-value.ensures;
      place = longest_run g.T.Field.format laws c.args.bytes.now c.read_whole-value.result (λ k. omega (arith, c.type_inv.bytes k)) c.read_whole-value.ensures;
    }
