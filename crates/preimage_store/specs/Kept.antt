-- How a history is kept.
use Rattle.std.specs.Prelude.{◌≡◌, ℕ, ◌-◌, ◌≤◌, List, ◌++◌, length, take, drop, replicate}
use Rattle.std.proofs.Common.{ap, sym, ◌∙◌, subst}
use Rattle.std.proofs.lemmas.List.{length-take-le, take-append-drop}
use Rattle.preimage_store.specs.declared.history.History.TheInside.{Inside}

-- three slots are kept, of which so many are used, and the others are 0
pub record KeepsSlots (h : Inside) : Type 0 where
  pub few : h.count ≤ 3
  pub room : length h.slots ≡ 3
  pub unused : drop h.count h.slots ≡ replicate (3 - h.count) 0

-- the slots that are used
abbrev pub used : Inside → List ℕ
used h = take h.count h.slots

-- how they are kept
abbrev pub kept : List ℕ → Inside
kept slots = record { count = length slots; slots = slots ++ replicate (3 - length slots) 0 }

pub kept-used : (h : Inside) → KeepsSlots h → kept (used h) ≡ h
kept-used h keeps =
    let within : h.count ≤ length h.slots = subst (λ n. h.count ≤ n) (sym keeps.room) keeps.few in
    ap (λ n. record { count = n; slots = used h ++ replicate (3 - n) 0 }) (length-take-le h.count h.slots within)
    ∙ ap (λ rest. record { count = h.count; slots = used h ++ rest }) (sym keeps.unused)
    ∙ ap (λ slots. record { count = h.count; slots = slots }) (take-append-drop h.count h.slots)
