use Rattle.std.proofs.Common.{◌≡◌, ◌∙◌, ap, sym, Ok, Err}
use Rattle.std.proofs.lemmas.Result.{err_from_is_err_and}
use Rattle.jam_codec.specs.Reading.{Reading, fixed_at}
use Rattle.jam_codec.specs.ListLaws.{option_tag_none, no_tag, wrong_tag}
use Rattle.jam_codec.proofs.cursor.Cursor.option_tag.Goals as goal

pub returns-in_err-tag-clause-none : goal.returns-in_err-tag-clause-none
returns-in_err-tag-clause-none c =
    let refused = err_from_is_err_and c.from_residual.result c.from_residual.ensures.1 in
    let missing : fixed_at 1 c.args.self.now ≡ Err c.in_err-tag.field-0.0.place = ap (λ (r : Reading). fixed_at 1 r) (sym c.ahead-ahead.ensures.same) ∙ c.in_err-tag.ensures.exact in
    rw refused.1 (option_tag_none c.args.self.now c.args.self.now.place (no_tag c.args.self.now c.in_err-tag.field-0.0.place missing))

pub returns-then-tag-gt1-clause-none : goal.returns-then-tag-gt1-clause-none
returns-then-tag-gt1-clause-none c =
    let tag : fixed_at 1 c.args.self.now ≡ Ok (c.in_ok-tag.tag, c.fixed.new.self) = ap (λ (r : Reading). fixed_at 1 r) (sym c.ahead-ahead.ensures.same) ∙ c.in_ok-tag.ensures.exact in
    option_tag_none c.args.self.now c.args.self.now.place (wrong_tag c.args.self.now c.fixed.new.self c.in_ok-tag.tag tag c.if-tag-gt1.true)
