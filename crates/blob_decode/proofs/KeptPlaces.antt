-- A list of what stands at each place, and one more.
use Rattle.std.proofs.Common.{◌≡◌, ℕ, ◌-◌, ◌<◌, ◌≤◌, inl, inr, List, [], ◌∷◌, ◌++◌, length, get_or, subst, sym, ap, refl, ◌∙◌, arith, length-append}
use Rattle.std.proofs.lemmas.Bool.{cases_lt}
use Rattle.std.proofs.lemmas.List.{get_or_append_left, get_or-append_right}
use Rattle.blob_decode.specs.declared.place.Place.{Place}
use Rattle.blob_decode.specs.Program.{Program}
use Rattle.blob_decode.specs.Kept.{IsPlace, ArePlaces}

pub kept_more : (p : Program) (places : List Place) (last : Place) → ArePlaces p places → IsPlace p (length places) last → ArePlaces p (places ++ (last ∷ []))
kept_more p places last all one place other within = elim (cases_lt place (length places)) [
  | inl before ↦ subst (IsPlace p place) (sym (get_or_append_left places (last ∷ []) other place before)) (all place other before)
  | inr past ↦
      let here : length places ≡ place = omega (arith, length-append places (last ∷ []), within, past) in
      let none : place - length places ≡ 0 = omega (arith, here) in
      let found : get_or (places ++ (last ∷ [])) place other ≡ last =
      get_or-append_right places (last ∷ []) (length places) place other refl past ∙ ap (λ (k : ℕ). get_or (last ∷ []) k other) none in
      subst (IsPlace p place) (sym found) (subst (λ (k : ℕ). IsPlace p k last) here one)
]
