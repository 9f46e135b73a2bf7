use Rattle.std.proofs.Common.{[], ◌∷◌, ap, ◌∙◌}
use Rattle.trace_text.specs.declared.line.Line.TheVariants as of
use Rattle.jam_cli.specs.Command.{prints}
use Rattle.jam_cli.proofs.work.hash_on.Goals as goal

pub returns : goal.returns
returns c = λ files are.
    let spelled = c.in_ok-digest.ensures.spelled files are in
    (_, spelled.1, c.in_ok-hash.ensures ∙ ap (λ digest. prints (of.Digest digest ∷ [])) spelled.0.0)
