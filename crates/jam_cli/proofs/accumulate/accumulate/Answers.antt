use Rattle.std.proofs.Common.{◌≡◌}
use Rattle.trace_text.specs.Transcript.{text_of}
use Rattle.state_file.specs.StateFile.{state_format}
use Rattle.batch_accumulate.specs.Batch.{posterior_of}
use Rattle.jam_cli.specs.Command.{batch_lines}
use Rattle.jam_cli.proofs.accumulate.accumulate.Goals as goal

pub returns : goal.returns
returns c =
    let bytes : c.in_ok-bytes.bytes.items ≡ state_format.spell c.in_ok-made.made.state = c.in_ok-bytes.ensures.1 in
    let text : c.in_ok-text.text.items ≡ text_of (batch_lines c.in_ok-made.made c.deref.result.now) = c.in_ok-text.ensures in
    let whole : c.deref.result.now ≡ c.in_ok-bytes.bytes.items = c.deref.ensures.value in
    let same : c.in_ok-made.made ≡ posterior_of c.args.prior.now c.args.batch.now = c.in_ok-made.ensures in
    cc (bytes, text, whole, same)
