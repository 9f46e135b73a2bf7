use Rattle.std.proofs.Common.{◌≡◌, string_bytes}
use Rattle.std.proofs.lemmas.Result.{IfOk-at_ok}
use Rattle.jam_outside.proofs.FilesLemmas.{files_of-insert}
use Rattle.jam_outside.proofs.held.put_file.Goals as goal

pub returns-clause-stored : goal.returns-clause-stored
returns-clause-stored c =
    files_of-insert c.args.held.now c.insert.new.self c.in_ok-key.key c.in_ok-value.value c.args.name.now c.args.bytes.now
    (IfOk-at_ok (λ s. string_bytes s ≡ c.args.name.now) c.in_ok-key.was c.from_str.ensures.ok)
    (IfOk-at_ok (λ v. v.items ≡ c.args.bytes.now) c.in_ok-value.was c.from_slice.ensures.items)
    c.in_ok-insert.ensures.updates
