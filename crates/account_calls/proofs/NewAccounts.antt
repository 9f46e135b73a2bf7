-- What a new account takes up.
use Rattle.std.proofs.Common.{◌≡◌, ℕ, ◌+◌, ◌<◌, ◌^◌, List, ap, ◌∙◌, arith}
use Rattle.std.specs.List.{sum_by}
use Rattle.std.specs.FinMap as fin
use Rattle.jam_codec.specs.Lists.{hash_and_number_cmp}
use Rattle.jam_accounts.specs.Accounts.{Storage, Lookups, bytes_cmp}
use Rattle.jam_accounts.specs.Footprint.{storage_octets, lookups_octets, value_octets, history_octets}
use Rattle.jam_accounts.specs.FootprintLaws.{history_put}
use Rattle.jam_accounts.specs.MapLaws.{no_entries}

no_values : storage_octets fin.empty ≡ 0
no_values = ap (sum_by value_octets) (no_entries bytes_cmp)

no_histories : lookups_octets fin.empty ≡ 0
no_histories = ap (sum_by history_octets) (no_entries hash_and_number_cmp)

module _ (storage : Storage) (lookups : Lookups) (values : storage ≡ fin.empty) (histories : lookups ≡ fin.empty) where
  pub fits_blank : storage_octets storage + lookups_octets lookups < 2 ^ 100
  fits_blank = omega (arith, ap storage_octets values ∙ no_values, ap lookups_octets histories ∙ no_histories)

  pub fits_asking : (hash : List ℕ) (length : ℕ) (history : List ℕ) → length < 2 ^ 32 → storage_octets storage + lookups_octets (fin.insert lookups (hash, length) history) < 2 ^ 100
  fits_asking hash length history short =
      omega (arith, ap storage_octets values ∙ no_values, ap lookups_octets histories ∙ no_histories, history_put lookups (hash, length) history, short)
