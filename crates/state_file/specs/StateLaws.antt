-- The laws of the file of a state.
use Rattle.std.specs.Prelude.{◌==◌, T}
use Rattle.std.proofs.Common.{◌≡◌, ℕ, Bool, true, false, List, [], ◌∷◌, map, length, cond, refl, sym, ap, ◌∙◌, subst, Some, None}
use Rattle.std.specs.declared.cmp.Ordering.TheVariants.{Less, Equal, Greater}
use Rattle.std.specs.declared.cmp.Ordering.{Ordering}
use Rattle.std.specs.Ordering.{nat_cmp, is_lt, is_eq, eq_by_cmp}
use Rattle.std.specs.Cmp.{nat_cmp_total, tied_itself}
use Rattle.std.specs.Cmp.Lexicographic.{nat_list_cmp_total}
use Rattle.std.specs.FinMap.Entries.{find, below_all, is_sorted}
use Rattle.std.specs.FinMap as fin
use Rattle.std.specs.FinMap.{IsAntisymmetric, nat_cmp-IsAntisymmetric, slice_cmp-IsAntisymmetric}
use Rattle.jam_codec.specs.Format.{Format, any, both, natural_where, fixed_where, bytes_where}
use Rattle.jam_codec.specs.Lists.{blob_where, blob_after, blob_by_after, number_after, hash_and_number_cmp, hash_and_number_after, up_to}
use Rattle.jam_codec.specs.Laws.{IsFormat}
use Rattle.jam_codec.specs.FormatLaws.{natural_laws, fixed_laws, bytes_laws, same_laws, both_laws, by_laws, blob_laws, blob_after_laws, blob_by_after_laws, number_after_laws, hash_and_number_laws, list_laws, fin_map_laws, blob_rises, blob_by_rises, number_rises, hash_and_number_rises, hash_and_number_total, nothing_laws, left_holds, right_holds, holds_less}
use Rattle.jam_fields.specs.SortedLaws.{rows_sorted, fit_ascend}
use Rattle.blake2b_core.specs.Blake2b.{digest}
use Rattle.jam_accounts.specs.Accounts.{Preimages, bytes_cmp, StandUnderDigests, is_version}
use Rattle.jam_accounts.specs.Fields.{account_from, account_fields, state_from, state_fields}
use Rattle.state_file.specs.StateFile.{storage_format, blobs_format, under_digest, preimages_format, history_format, lookups_format, unless_first, not_in_first, account_format, accounts_format, state_format}

pub storage_laws : IsFormat storage_format
storage_laws = fin_map_laws bytes_cmp nat_list_cmp_total blob_after (blob_where any) blob_rises blob_after_laws (blob_laws any)

pub blobs_laws : IsFormat blobs_format
blobs_laws = list_laws any (blob_by_after digest) (blob_by_after_laws digest)

pub history_laws : IsFormat history_format
history_laws = list_laws (up_to 3) (λ last. fixed_where 4 any) (λ last. fixed_laws 4 any)

pub lookups_laws : IsFormat lookups_format
lookups_laws = fin_map_laws hash_and_number_cmp hash_and_number_total hash_and_number_after history_format hash_and_number_rises hash_and_number_laws history_laws

bytes_same : IsAntisymmetric bytes_cmp
bytes_same = slice_cmp-IsAntisymmetric nat_cmp-IsAntisymmetric

tied : (order : Ordering) → is_eq order ≡ true → order ≡ Equal
tied Less e = absurd (cc e)
tied Equal e = refl
tied Greater e = absurd (cc e)

-- the preimages of a list, under their digests
values_under : (xs : List (List ℕ)) → map (λ (e : List ℕ × List ℕ). e.1) (map under_digest xs) ≡ xs
values_under [] = refl
values_under (x ∷ xs) = ap (λ (ys : List (List ℕ)). x ∷ ys) (values_under xs)

under_sorted : (xs : List (List ℕ)) → blobs_format.Fits xs → T (is_sorted bytes_cmp (map under_digest xs))
under_sorted xs h = rows_sorted bytes_cmp nat_list_cmp_total under_digest xs (fit_ascend (blob_by_after digest) (λ a b. bytes_cmp (digest a) (digest b) ≡ Less) (blob_by_rises digest) (length xs) None xs h.1)

under_entries : (xs : List (List ℕ)) → blobs_format.Fits xs → fin.entries (fin.from_sorted {R = bytes_cmp} (map under_digest xs)) ≡ map under_digest xs
under_entries xs h = fin.entries-from_sorted bytes_cmp (map under_digest xs) (under_sorted xs h)

-- each stands under its digest
found_either : (q x : List ℕ) (xs : List (List ℕ)) (v : List ℕ) → (find bytes_cmp q (map under_digest xs) ≡ Some v → q ≡ digest v) → (b : Bool) → eq_by_cmp bytes_cmp q (digest x) ≡ b → find bytes_cmp q (map under_digest (x ∷ xs)) ≡ Some v → q ≡ digest v
found_either q x xs v later true at e =
    let here : Some x ≡ Some v = sym (ap (λ b. cond b (Some x) (find bytes_cmp q (map under_digest xs))) at) ∙ e in
    let same : x ≡ v = cc in
    bytes_same q (digest x) (tied (bytes_cmp q (digest x)) at) ∙ ap digest same
found_either q x xs v later false at e = later (sym (ap (λ b. cond b (Some x) (find bytes_cmp q (map under_digest xs))) at) ∙ e)

found_under : (q : List ℕ) (xs : List (List ℕ)) (v : List ℕ) → find bytes_cmp q (map under_digest xs) ≡ Some v → q ≡ digest v
found_under q [] v e = absurd (cc e)
found_under q (x ∷ xs) v e = found_either q x xs v (λ later. found_under q xs v later) (eq_by_cmp bytes_cmp q (digest x)) refl e

under_stand : (xs : List (List ℕ)) → blobs_format.Fits xs → StandUnderDigests (fin.from_sorted {R = bytes_cmp} (map under_digest xs))
under_stand xs h q v e = found_under q xs v (sym (fin.get-from_sorted bytes_cmp (map under_digest xs) q (under_sorted xs h)) ∙ e)

-- the entries of preimages that stand under their digests are those of their bytes
none_below : (q : List ℕ) (es : List (List ℕ × List ℕ)) → T (below_all bytes_cmp q es) → find bytes_cmp q es ≡ None
none_below q [] h = refl
none_below q (e ∷ es) h =
    let less : bytes_cmp q e.0 ≡ Less = holds_less (bytes_cmp q e.0) (left_holds (is_lt (bytes_cmp q e.0)) (below_all bytes_cmp q es) h) in
    ap (λ o. cond (is_eq o) (Some e.1) (find bytes_cmp q es)) less ∙ none_below q es (right_holds (is_lt (bytes_cmp q e.0)) (below_all bytes_cmp q es) h)

found_apart : (e : List ℕ × List ℕ) (es : List (List ℕ × List ℕ)) → T (below_all bytes_cmp e.0 es) → (q v : List ℕ) → find bytes_cmp q es ≡ Some v → (b : Bool) → eq_by_cmp bytes_cmp q e.0 ≡ b → find bytes_cmp q (e ∷ es) ≡ Some v
found_apart e es h q v at true at_first =
    let same : q ≡ e.0 = bytes_same q e.0 (tied (bytes_cmp q e.0) at_first) in
    let none : find bytes_cmp q es ≡ None = ap (λ k. find bytes_cmp k es) same ∙ none_below e.0 es h in
    absurd (cc (sym none ∙ at))
found_apart e es h q v at false apart = ap (λ b. cond b (Some e.1) (find bytes_cmp q es)) apart ∙ at

found_later : (e : List ℕ × List ℕ) (es : List (List ℕ × List ℕ)) → T (below_all bytes_cmp e.0 es) → (q v : List ℕ) → find bytes_cmp q es ≡ Some v → find bytes_cmp q (e ∷ es) ≡ Some v
found_later e es h q v at = found_apart e es h q v at (eq_by_cmp bytes_cmp q e.0) refl

under_again : (es : List (List ℕ × List ℕ)) → T (is_sorted bytes_cmp es) → ((q v : List ℕ) → find bytes_cmp q es ≡ Some v → q ≡ digest v) → map under_digest (map (λ (e : List ℕ × List ℕ). e.1) es) ≡ es
under_again [] h stand = refl
under_again (e ∷ es) h stand =
    let below : T (below_all bytes_cmp e.0 es) = left_holds (below_all bytes_cmp e.0 es) (is_sorted bytes_cmp es) h in
    let first : e.0 ≡ digest e.1 = stand e.0 e.1 (ap (λ o. cond (is_eq o) (Some e.1) (find bytes_cmp e.0 es)) (tied_itself nat_list_cmp_total e.0)) in
    let rest : map under_digest (map (λ (p : List ℕ × List ℕ). p.1) es) ≡ es = under_again es (right_holds (below_all bytes_cmp e.0 es) (is_sorted bytes_cmp es) h) (λ q v at. stand q v (found_later e es below q v at)) in
    λ i. (sym first i, e.1) ∷ rest i

preimages_again : (m : Preimages) → StandUnderDigests m → fin.from_sorted {R = bytes_cmp} (map under_digest (fin.values m)) ≡ m
preimages_again m stand =
    let same : map under_digest (fin.values m) ≡ fin.entries m = under_again (fin.entries m) (fin.entries_sorted m) (λ q v at. stand q v (fin.get-entries m q ∙ at)) in
    fin.same_entries_map (fin.from_sorted {R = bytes_cmp} (map under_digest (fin.values m))) m
    (ap (λ es. fin.entries (fin.from_sorted {R = bytes_cmp} es)) same ∙ fin.entries-from_sorted bytes_cmp (fin.entries m) (fin.entries_sorted m))

preimages_values : (xs : List (List ℕ)) → blobs_format.Fits xs → fin.values (fin.from_sorted {R = bytes_cmp} (map under_digest xs)) ≡ xs
preimages_values xs h = ap (map (λ (e : List ℕ × List ℕ). e.1)) (under_entries xs h) ∙ values_under xs

pub preimages_laws : IsFormat preimages_format
preimages_laws = same_laws (λ xs. fin.from_sorted {R = bytes_cmp} (map under_digest xs)) blobs_format preimages_format blobs_laws (record {
  fits = λ xs h. ((under_stand xs h, subst blobs_format.Fits (sym (preimages_values xs h)) h), ap blobs_format.spell (preimages_values xs h));
  onto = λ m h. (fin.values m, h.1, preimages_again m h.0);
  run = λ run. (λ h. h, λ h. h);
  reads = λ r. refl;
})

unless_first_laws : (first : Bool) (f : Format ℕ) → IsFormat f → IsFormat (unless_first first f)
unless_first_laws true f F = nothing_laws 0
unless_first_laws false f F = F

not_in_first_laws : (version n : ℕ) → IsFormat (not_in_first version (fixed_where n any))
not_in_first_laws version n = unless_first_laws (version == 1) (fixed_where n any) (fixed_laws n any)

pub account_laws : (version : ℕ) → IsFormat (account_format version)
account_laws version =
    by_laws account_from account_fields
    (both (bytes_where 32 any) (λ _. both (fixed_where 8 any) (λ _. both (fixed_where 8 any) (λ _. both (fixed_where 8 any) (λ _.
    both (not_in_first version (fixed_where 8 any)) (λ _. both (not_in_first version (fixed_where 4 any)) (λ _.
    both storage_format (λ _. both preimages_format (λ _. lookups_format)))))))))
    (both_laws _ _ (bytes_laws 32 any) (λ _. both_laws _ _ (fixed_laws 8 any) (λ _. both_laws _ _ (fixed_laws 8 any) (λ _. both_laws _ _ (fixed_laws 8 any) (λ _.
    both_laws _ _ (not_in_first_laws version 8) (λ _. both_laws _ _ (not_in_first_laws version 4) (λ _.
    both_laws _ _ storage_laws (λ _. both_laws _ _ preimages_laws (λ _. lookups_laws)))))))))
    (λ p h. refl)
    (λ a h. refl)

pub accounts_laws : (version : ℕ) → IsFormat (accounts_format version)
accounts_laws version = fin_map_laws nat_cmp nat_cmp_total (number_after 4) (account_format version) (number_rises 4) (number_after_laws 4) (account_laws version)

pub state_laws : IsFormat state_format
state_laws =
    by_laws state_from state_fields
    (both (natural_where is_version) (λ version. both (fixed_where 4 any) (λ _. both (bytes_where 32 any) (λ _. accounts_format version))))
    (both_laws _ _ (natural_laws is_version) (λ version. both_laws _ _ (fixed_laws 4 any) (λ _. both_laws _ _ (bytes_laws 32 any) (λ _. accounts_laws version))))
    (λ p h. refl)
    (λ s h. refl)
