use Rattle.std.proofs.Common.{subst, Option, MatchOption}
use Rattle.jam_cli.specs.declared.words.Line as parsed_line
use Rattle.jam_cli.specs.Table.{Asks, AsksNothing, texts}
use Rattle.jam_cli.specs.Parts.{asked, IsLine}
use Rattle.jam_cli.proofs.Carried.{call_ends}
use Rattle.jam_cli.proofs.top.serve.Goals as goal

pub returns-in-Ok-Some : goal.returns-in-Ok-Some
returns-in-Ok-Some g c =
    let words = texts c.deref.result.now in
    let found = subst (λ (o : Option parsed_line.Line). MatchOption o (AsksNothing words) (λ line. Asks (asked line.command) words × IsLine line)) c.in-Ok-Some.field-0-is c.in-Ok-Some.ensures in
    call_ends c.carry_out.result (asked c.in-Ok-Some.line.command) _ _ (subst (λ ws. Asks (asked c.in-Ok-Some.line.command) (texts ws)) c.deref.ensures.value found.0) c.carry_out.ensures
