use Rattle.std.proofs.Common.{◌≡◌, ◌∷◌, ◌++◌, [], List, ℕ, sym, subst, ap, ◌∙◌, arith, rules, length, length-append}
use Rattle.blob_decode.specs.declared.place.Place.{Place}
use Rattle.blob_decode.specs.Kept.{IsPlace, ArePlaces}
use Rattle.blob_decode.proofs.KeptPlaces.{kept_more}
use Rattle.blob_decode.proofs.program.Program.all_places.Goals as goal

pub each-preserved : goal.each-preserved
each-preserved c =
    let pushed : c.push.new.self.items ≡ c.each.places.items ++ (c.place_at.result ∷ []) = search rules in
    let here : c.each.place ≡ length c.each.places.items = sym c.each.invariant.all in
    record {
      all = ap length pushed ∙ length-append c.each.places.items (c.place_at.result ∷ []) ∙ omega (arith, c.each.invariant.all);
      kept =
          subst (ArePlaces c.args.self.now) (sym pushed)
          (kept_more c.args.self.now c.each.places.items c.place_at.result c.each.invariant.kept (subst (λ (k : ℕ). IsPlace c.args.self.now k c.place_at.result) here c.place_at.ensures));
    }
