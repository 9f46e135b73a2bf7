-- Footprints as the account of the program counts them; and accounts that still fit.
use Rattle.std.proofs.Common.{Ordering, ◌≡◌, ℕ, ◌+◌, ◌*◌, ◌≤◌, ◌<◌, ◌^◌, List, ap, sym, ◌∙◌, subst, arith, Bool, true, false, Some, None, Option, option_map, is_some, unwrap_or, refl}
use Rattle.std.specs.Prelude.{T, nat_lt, if◌then◌else◌}
use Rattle.std.specs.List.{sum_by}
use Rattle.std.specs.FinMap as fin
use Rattle.std.specs.Cmp.Lexicographic.{nat_list_cmp_total}
use Rattle.jam_codec.specs.FormatLaws.{hash_and_number_total}
use Rattle.jam_accounts.specs.Accounts.{Storage, Lookups}
use Rattle.jam_accounts.specs.Footprint.{value_octets, history_octets, storage_octets, lookups_octets, fitting, weight_at, IsBounded}
use Rattle.jam_accounts.specs.MapLaws.{no_entries, bytes_same, lookups_same}
use Rattle.jam_accounts.specs.SumLaws.{sum_by-remove-le}
use Rattle.jam_accounts.specs.FootprintLaws.{values_count, histories_count, values_le, histories_le, history_put}

-- nothing takes up nothing
pub no_octets : {K X : Type 0} (R : K → K → Ordering) (f : K × X → ℕ) (m : fin.FinMap R X) → m ≡ fin.empty → sum_by f (fin.entries m) ≡ 0
no_octets R f m none = ap (λ x. sum_by f (fin.entries x)) none ∙ ap (sum_by f) (no_entries R)

module _ (storage : Storage) (lookups : Lookups) where
  pub counted : (n m : ℕ) → n ≡ fin.len storage → m ≡ fin.len lookups
      → n + 2 * m ≡ sum_by (λ (_ : List ℕ × List ℕ). 1) (fin.entries storage) + sum_by (λ (_ : (List ℕ × ℕ) × List ℕ). 2) (fin.entries lookups)
  counted n m p q = omega (arith, p, q, values_count storage lookups, histories_count storage lookups)

  pub bounded : (n m x y : ℕ) → n ≡ fin.len storage → m ≡ fin.len lookups → x ≡ storage_octets storage → y ≡ lookups_octets lookups
      → storage_octets storage + lookups_octets lookups < 2 ^ 100 → IsBounded (record { items = n + 2 * m; octets = x + y })
  bounded n m x y p q r s h = record {
    items = omega (arith, p, q, r, s, values_count storage lookups, histories_count storage lookups, values_le storage lookups, histories_le storage lookups);
    octets = omega (arith, r, s, h);
  }

-- what takes up less still fits
pub storage_less : (m n : Storage) (key : List ℕ) (rest : ℕ) → n ≡ fin.remove m key → storage_octets m + rest < 2 ^ 100 → storage_octets n + rest < 2 ^ 100
storage_less m n key rest is h =
    let le : storage_octets n ≤ storage_octets m = subst (λ (x : Storage). storage_octets x ≤ storage_octets m) (sym is) (sum_by-remove-le nat_list_cmp_total bytes_same value_octets m key) in
    omega (arith, le, h)

pub lookups_less : (m n : Lookups) (key : List ℕ × ℕ) (rest : ℕ) → n ≡ fin.remove m key → rest + lookups_octets m < 2 ^ 100 → rest + lookups_octets n < 2 ^ 100
lookups_less m n key rest is h =
    let le : lookups_octets n ≤ lookups_octets m = subst (λ (x : Lookups). lookups_octets x ≤ lookups_octets m) (sym is) (sum_by-remove-le hash_and_number_total lookups_same history_octets m key) in
    omega (arith, le, h)

fitted_as : (b : Bool) (n x : ℕ) → (if b then Some n else None) ≡ Some x → x ≡ n
fitted_as true n x e = ap (λ o. unwrap_or o x) (sym e)
fitted_as false n x e = absurd (subst T (sym (ap is_some e)) tt)

pub fitted : (n x : ℕ) → fitting n ≡ Some x → x ≡ n
fitted n x e = fitted_as (nat_lt n (2 ^ 100)) n x e

weighs_there : (found : Option (List ℕ)) (history : List ℕ) (n : ℕ) → found ≡ Some history → unwrap_or (option_map (λ (value : List ℕ). n) found) 0 ≡ n
weighs_there None history n e = absurd (subst T (sym (ap is_some e)) tt)
weighs_there (Some other) history n e = refl

-- a history in place of one that is there takes up as much
pub lookups_replaced : (m n : Lookups) (key : List ℕ × ℕ) (old new : List ℕ) → fin.get m key ≡ Some old → n ≡ fin.insert m key new → lookups_octets n ≡ lookups_octets m
lookups_replaced m n key old new there is =
    let sums : lookups_octets (fin.insert m key new) + weight_at history_octets m key ≡ lookups_octets m + (81 + key.1) = history_put m key new in
    let weight : weight_at history_octets m key ≡ 81 + key.1 = weighs_there (fin.get m key) old (81 + key.1) there in
    ap lookups_octets is ∙ omega (arith, sums, weight)
