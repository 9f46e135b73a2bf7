use Rattle.std.proofs.Common.{◌≡◌, ◌∙◌, ap, sym, Ok}
use Rattle.std.proofs.lemmas.Result.{err_from_is_err_and}
use Rattle.jam_codec.specs.Reading.{Reading, natural_at}
use Rattle.jam_codec.specs.ListLaws.{blob_none, blob_no_body}
use Rattle.jam_codec.proofs.cursor.Cursor.blob.Goals as goal

pub returns-in_err-found-clause-none : goal.returns-in_err-found-clause-none
returns-in_err-found-clause-none c =
    let refused = err_from_is_err_and c.from_residual-in_err-found.result c.from_residual-in_err-found.ensures.1 in
    let length : natural_at c.args.self.now ≡ Ok (c.in_ok-length.length, c.natural.new.self) = ap (λ (r : Reading). natural_at r) (sym c.ahead-ahead.ensures.same) ∙ c.in_ok-length.ensures.exact in
    rw refused.1 (blob_none c.args.self.now c.natural.new.self.place (blob_no_body c.args.self.now c.natural.new.self c.in_ok-length.length c.in_err-found.field-0.0.place length c.in_err-found.ensures.exact))
