use Rattle.std.proofs.Common.{sym, ◌∙◌}
use Rattle.jam_cli.specs.Parts.{asked}
use Rattle.jam_cli.proofs.Verbs.{parsed, not_parsed, first_text}
use Rattle.jam_cli.proofs.words.command_of.Goals as goal

pub returns-in-Ok : goal.returns-in-Ok
returns-in-Ok c = (
  rw (first_text c.args.words.now c.word-item.result c.in-len1-up.len_at_least c.word-item.is)
      (parsed c.in-Some.verb _ _ (asked c.in-Ok.line.command) (sym c.as_str.ensures.value ∙ c.in-Some.ensures) c.in-Ok.ensures.0),
  c.in-Ok.ensures.1,
)

pub returns-in-Err-OtherWords : goal.returns-in-Err-OtherWords
returns-in-Err-OtherWords c =
    rw (first_text c.args.words.now c.word-item.result c.in-len1-up.len_at_least c.word-item.is)
    (not_parsed c.in-Some.verb _ _ c.in-Err-OtherWords.field-0 (sym c.as_str.ensures.value ∙ c.in-Some.ensures) c.in-Err-OtherWords.field-0-is c.in-Err-OtherWords.ensures)
