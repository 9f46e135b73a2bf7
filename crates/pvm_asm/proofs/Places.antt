-- The places of labels in a map of the program.
use Rattle.std.proofs.Common.{◌≡◌, ℕ, cond, List, [], ◌∷◌, map, Vec, Some, refl, sym, ap, ◌∙◌}
use Rattle.std.specs.declared.cmp.Ordering.{Ordering}
use Rattle.std.specs.declared.cmp.Ordering.TheVariants.{Less, Equal, Greater}
use Rattle.std.specs.Ordering.{nat_cmp, match_ordering, eq_by_cmp, is_eq}
use Rattle.std.specs.Cmp.Lexicographic.{slice_cmp, nat_list_cmp_total}
use Rattle.std.specs.BTreeMap.{BTreeMap, insert_entry, is_at}
use Rattle.std.specs.Map.{lookup}
use Rattle.std.specs.declared.alloc.Global.{Global}
use Rattle.std.specs.FinMap as fin
use Rattle.std.specs.FinMap.{nat_cmp-IsAntisymmetric, slice_cmp-IsAntisymmetric}
use Rattle.std.specs.FinMap.Entries.{put, by_order, find-put}
use Rattle.pvm_asm.specs.Labels.{places_of, plain_label, place_of_label}

abbrev Name : Type 0
Name = Vec ℕ Global

abbrev order : List ℕ → List ℕ → Ordering
order = slice_cmp nat_cmp

found : (q : List ℕ) (es : List (Name × ℕ)) → fin.find order q (map plain_label es) ≡ lookup (is_at (λ (k : Name). order q k.items)) es
found q [] = refl
found q (e ∷ es) = ap (cond (is_eq (order q e.0.items)) (Some e.1)) (found q es)

pub place_found : (m : BTreeMap Name ℕ) (q : List ℕ) → place_of_label (places_of m) q ≡ lookup (is_at (λ (k : Name). order q k.items)) m.entries
place_found m q = fin.get-from_entries nat_list_cmp_total (map plain_label m.entries) q ∙ found q m.entries

placed : (o : Ordering) (k : Name) (v : ℕ) (e : Name × ℕ) (es rest : List (Name × ℕ)) (more : List (List ℕ × ℕ)) → map plain_label rest ≡ more
    → map plain_label (match_ordering o ((k, v) ∷ e ∷ es) ((e.0, v) ∷ es) (e ∷ rest))
    ≡ by_order o ((k.items, v) ∷ (e.0.items, e.1) ∷ map plain_label es) ((e.0.items, v) ∷ map plain_label es) ((e.0.items, e.1) ∷ more)
placed Less k v e es rest more p = refl
placed Equal k v e es rest more p = refl
placed Greater k v e es rest more p = ap (λ (xs : List (List ℕ × ℕ)). (e.0.items, e.1) ∷ xs) p

inserted : (es : List (Name × ℕ)) (k : Name) (v : ℕ) → map plain_label (insert_entry (λ (x y : Name). order x.items y.items) es k v) ≡ put order k.items v (map plain_label es)
inserted [] k v = refl
inserted (e ∷ es) k v = placed (order k.items e.0.items) k v e es _ _ (inserted es k v)

pub place_kept : (m n : BTreeMap Name ℕ) (k : Name) (v : ℕ) → n.entries ≡ insert_entry (λ (x y : Name). order x.items y.items) m.entries k v → places_of n ≡ fin.insert (places_of m) k.items v
place_kept m n k v h = fin.same_map nat_list_cmp_total (slice_cmp-IsAntisymmetric nat_cmp-IsAntisymmetric) (places_of n) (fin.insert (places_of m) k.items v) (λ q.
    fin.get-from_entries nat_list_cmp_total (map plain_label n.entries) q
    ∙ ap (fin.find order q) (ap (map plain_label) h ∙ inserted m.entries k v)
    ∙ find-put order nat_list_cmp_total q k.items v (map plain_label m.entries)
    ∙ ap (cond (eq_by_cmp order q k.items) (Some v)) (sym (fin.get-from_entries nat_list_cmp_total (map plain_label m.entries) q))
    ∙ sym (fin.get-insert nat_list_cmp_total (places_of m) k.items v q))
