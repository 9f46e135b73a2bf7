-- The places of a layer and its journal: what has a place keeps it.
use Rattle.std.proofs.Common.{◌≡◌, Bool, true, false, cond, List, [], ◌∷◌, ◌++◌, Option, Some, IsSome, refl, sym, ap, subst, ◌∙◌, Ordering}
use Rattle.std.specs.BTreeMap.{insert_entry, is_at}
use Rattle.std.specs.Map.{lookup}
use Rattle.account_overlay.specs.Layers.{Covered, Keeps, put_back}

either_there : {C : Type 0} (b : Bool) (held : C) (found : Option C) → IsSome found → IsSome (cond b (Some held) found)
either_there true held found there = refl
either_there false held found there = there

module _ {K C : Type 0} (cmp : K → K → Ordering) where
  pub keeps_by : (old new : List (K × C)) (place : K) (held : C)
      → ((q : K) → lookup (is_at (cmp q)) new ≡ cond (is_at (cmp place) q) (Some held) (lookup (is_at (cmp q)) old)) → Keeps cmp old new
  keeps_by old new place held updated q there = subst IsSome (sym (updated q)) (either_there (is_at (cmp place) q) held (lookup (is_at (cmp q)) old) there)

  pub keeps_covered : (old new journal : List (K × C)) → Keeps cmp old new → Covered cmp old journal → Covered cmp new journal
  keeps_covered old new [] keeps covered = tt
  keeps_covered old new (undo ∷ undos) keeps covered = (keeps undo.0 covered.0, keeps_covered old new undos keeps covered.1)

  pub covered_push : (places journal : List (K × C)) (undo : K × C) → Covered cmp places journal → IsSome (lookup (is_at (cmp undo.0)) places) → Covered cmp places (journal ++ undo ∷ [])
  covered_push places [] undo covered there = (there, tt)
  covered_push places (u ∷ us) undo covered there = (covered.0, covered_push places us undo covered.1 there)

  pub covered_front : (places journal : List (K × C)) (undo : K × C) → Covered cmp places (journal ++ undo ∷ []) → Covered cmp places journal
  covered_front places [] undo covered = tt
  covered_front places (u ∷ us) undo covered = (covered.0, covered_front places us undo covered.1)

  pub covered_last : (places journal : List (K × C)) (undo : K × C) → Covered cmp places (journal ++ undo ∷ []) → IsSome (lookup (is_at (cmp undo.0)) places)
  covered_last places [] undo covered = covered.0
  covered_last places (u ∷ us) undo covered = covered_last places us undo covered.1

  -- the last of the journal is put back first
  put_back_push : (places journal : List (K × C)) (undo : K × C) → put_back cmp places (journal ++ undo ∷ []) ≡ put_back cmp (insert_entry cmp places undo.0 undo.1) journal
  put_back_push places [] undo = refl
  put_back_push places (u ∷ us) undo = ap (λ es. insert_entry cmp es u.0 u.1) (put_back_push places us undo)

  -- what is left of a journal, once its last is put back
  pub put_back_rest : (old new journal left : List (K × C)) (undo : K × C) (all : List (K × C)) → new ≡ insert_entry cmp old undo.0 undo.1 → journal ≡ left ++ undo ∷ []
      → put_back cmp old journal ≡ all → put_back cmp new left ≡ all
  put_back_rest old new journal left undo all put last so_far =
      ap (λ es. put_back cmp es left) put ∙ sym (put_back_push old left undo) ∙ ap (put_back cmp old) (sym last) ∙ so_far

  module _ (old new before after : List (K × C)) (place key : K) (held was : C) (same : is_at (cmp place) key ≡ true)
      (updated : (q : K) → lookup (is_at (cmp q)) new ≡ cond (is_at (cmp place) q) (Some held) (lookup (is_at (cmp q)) old)) (more : after ≡ before ++ (key, was) ∷ []) where
    pub set_covered : Covered cmp old before → Covered cmp new after
    set_covered covered =
        subst (Covered cmp new) (sym more)
        (covered_push new before (key, was) (keeps_covered old new before (keeps_by old new place held updated) covered)
        (subst IsSome (sym (updated key ∙ ap (λ b. cond b (Some held) (lookup (is_at (cmp key)) old)) same)) refl))
