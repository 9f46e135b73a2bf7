-- The octets of what was read.
use Rattle.std.proofs.Common.{◌≡◌, ℕ, ◌+◌, ◌*◌, ◌<◌, ◌≤◌, ◌^◌, List, [], ◌∷◌, ◌++◌, length, ap, sym, ◌∙◌, refl, subst, arith, Ok, None, length-append}
use Rattle.std.specs.Prelude.{T}
use Rattle.std.specs.List.{sum_by}
use Rattle.std.proofs.lemmas.List.Sums.{sum_by-cons, sum_by-append}
use Rattle.std.specs.Cmp.Lexicographic.{nat_list_cmp_total, slice_cmp}
use Rattle.std.specs.FinMap as fin
use Rattle.std.specs.FinMap.Entries.{is_sorted}
use Rattle.jam_codec.specs.Reading.{Reading}
use Rattle.jam_codec.specs.Format.{any}
use Rattle.jam_codec.specs.Lists.{blob_where, blob_after, map_entry, map_of, follows, hash_and_number_cmp}
use Rattle.std.specs.Ordering.{nat_cmp}
use Rattle.jam_codec.specs.FormatLaws.{hash_and_number_total}
use Rattle.jam_fields.specs.SortedLaws.{ListRead, list_read, map_sorted, blob_above, insert_end}
use Rattle.jam_fields.specs.SizeLaws.{natural_size, blob_size, entry_size, items_size}
use Rattle.jam_accounts.specs.Accounts.{Lookups, bytes_cmp}
use Rattle.jam_accounts.specs.Footprint.{value_octets, history_octets, storage_octets, lookups_octets}

-- values: their bytes were all there
abbrev lengths : List ℕ × List ℕ → ℕ
lengths e = length e.0 + length e.1

octets-lengths : (es : List (List ℕ × List ℕ)) → sum_by value_octets es ≡ 34 * length es + sum_by lengths es
octets-lengths [] = refl
octets-lengths (e ∷ es) = omega (arith, sum_by-cons value_octets e es, sum_by-cons lengths e es, octets-lengths es)

pub values_small : (r s : Reading) (es : List (List ℕ × List ℕ)) → (map_of blob_after (blob_where any)).read r ≡ Ok (es, s) → length r.rest < 2 ^ 64 → length es < 2 ^ 64 → storage_octets (fin.from_sorted {R = bytes_cmp} es) < 2 ^ 99
values_small r s es e bytes count =
    let l : ListRead any (map_entry blob_after (blob_where any)) r es s = list_read any (map_entry blob_after (blob_where any)) r es s e in
    let size : sum_by lengths es + length s.rest ≤ length l.mid.rest =
    items_size (map_entry blob_after (blob_where any)) lengths (entry_size blob_after (blob_where any) length length (λ last. blob_size (follows (slice_cmp nat_cmp) last)) (blob_size any)) l.count None l.mid es s l.items in
    let entries : fin.entries (fin.from_sorted {R = bytes_cmp} es) ≡ es = fin.entries-from_sorted bytes_cmp es (map_sorted bytes_cmp nat_list_cmp_total blob_after (blob_where any) blob_above r es s e) in
    subst (λ xs. sum_by value_octets xs < 2 ^ 99) (sym entries) (omega (arith, size, octets-lengths es, natural_size r l.count l.mid l.number))

-- histories: each stands under a length of four bytes
pub none_small : (m : Lookups) → m ≡ fin.empty → lookups_octets m ≤ (81 + 2 ^ 32) * length (fin.entries m)
none_small m none = small (fin.entries m) (sym (fin.len-entries m) ∙ ap fin.len none ∙ fin.len-empty hash_and_number_cmp (List ℕ)) where
  small : (es : List ((List ℕ × ℕ) × List ℕ)) → length es ≡ 0 → sum_by history_octets es ≤ (81 + 2 ^ 32) * length es
  small [] e = omega arith
  small (x ∷ es) e = absurd (omega arith)

pub one_small : (m n : Lookups) (left rest all : List ((List ℕ × ℕ) × List ℕ)) (k : List ℕ × ℕ) (v : List ℕ) → T (is_sorted hash_and_number_cmp all) → fin.entries m ++ left ≡ all → left ≡ (k, v) ∷ rest → n ≡ fin.insert m k v
    → k.1 < 2 ^ 32 → lookups_octets m ≤ (81 + 2 ^ 32) * length (fin.entries m) → lookups_octets n ≤ (81 + 2 ^ 32) * length (fin.entries n)
one_small m n left rest all k v sorted is next put low small =
    let whole : fin.entries m ++ (k, v) ∷ rest ≡ all = ap (λ (es : List ((List ℕ × ℕ) × List ℕ)). fin.entries m ++ es) (sym next) ∙ is in
    let entries : fin.entries n ≡ fin.entries m ++ (k, v) ∷ [] = ap fin.entries put ∙ insert_end hash_and_number_cmp hash_and_number_total m rest k v (subst (λ (es : List ((List ℕ × ℕ) × List ℕ)). T (is_sorted hash_and_number_cmp es)) (sym whole) sorted) in
    let last : sum_by history_octets ((k, v) ∷ []) ≡ 81 + k.1 = omega arith in
    subst (λ es. sum_by history_octets es ≤ (81 + 2 ^ 32) * length es) (sym entries)
    (omega (arith, small, low, last, sum_by-append history_octets (fin.entries m) ((k, v) ∷ []), length-append (fin.entries m) ((k, v) ∷ [])))

pub all_small : (m : Lookups) (left all : List ((List ℕ × ℕ) × List ℕ)) → fin.entries m ++ left ≡ all → length all < 2 ^ 64 → lookups_octets m ≤ (81 + 2 ^ 32) * length (fin.entries m) → lookups_octets m < 2 ^ 99
all_small m left all is count small = omega (arith, small, count, ap length is, length-append (fin.entries m) left)
