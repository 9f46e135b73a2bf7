use Rattle.std.proofs.Common.{◌≡◌, ◌∙◌, ap}
use Rattle.jam_codec.specs.Reading.{Reading}
use Rattle.jam_codec.specs.NaturalLaws.{natural-none}
use Rattle.jam_codec.proofs.cursor.Cursor.natural.Goals as goal

pub returns-in-None-clause-malformed : goal.returns-in-None-clause-malformed
returns-in-None-clause-malformed c =
    let rest : c.self.inside.rest.now ≡ c.args.self.now.rest = ap (λ (r : Reading). r.rest) c.self.view_is in (
      ap (λ (r : Reading). r.place) c.self.view_is,
      λ x tail h e. natural-none c.self.inside.rest.now x tail c.in-None.ensures.exact h (rest ∙ e),
    )
