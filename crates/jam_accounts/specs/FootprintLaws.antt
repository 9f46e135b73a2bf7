-- Items by the lengths of the maps, items against octets, and the octets after a value or a history is put or removed.
use Rattle.std.proofs.Common.{◌≡◌, ℕ, suc, ◌+◌, ◌*◌, ◌≤◌, List, [], ◌∷◌, length, ap, sym, ◌∙◌, arith}
use Rattle.std.specs.List.{sum_by}
use Rattle.std.specs.FinMap as fin
use Rattle.std.proofs.lemmas.List.Sums.{sum_by-cons}
use Rattle.std.specs.Cmp.Lexicographic.{nat_list_cmp_total}
use Rattle.jam_codec.specs.FormatLaws.{hash_and_number_total}
use Rattle.jam_accounts.specs.Accounts.{Account, Storage, Lookups}
use Rattle.jam_accounts.specs.Footprint.{items_of, octets_of, value_octets, history_octets, storage_octets, lookups_octets, weight_at}
use Rattle.jam_accounts.specs.MapLaws.{bytes_same, lookups_same}
use Rattle.jam_accounts.specs.SumLaws.{sum_by-insert, sum_by-remove}

sum_by-constant : {A : Type 0} (n : ℕ) (xs : List A) → sum_by (λ (_ : A). n) xs ≡ n * length xs
sum_by-constant n [] = omega arith
sum_by-constant {A} n (x ∷ xs) = sum_by-cons (λ (_ : A). n) x xs ∙ ap (λ s. n + s) (sum_by-constant n xs) ∙ one_more n (length xs)
  where
    one_more : (n k : ℕ) → n + n * k ≡ n * suc k
    one_more n k = grind arith

at_most : (a b c d e f : ℕ) → e ≡ a + c → f ≡ b + d → a ≤ b → c ≤ d → e ≤ f
at_most a b c d e f p q h i = omega (arith, p, q, h, i)

sum_by-le-sum_by : {A : Type 0} (f g : A → ℕ) → ((x : A) → f x ≤ g x) → (xs : List A) → sum_by f xs ≤ sum_by g xs
sum_by-le-sum_by f g h [] = omega arith
sum_by-le-sum_by f g h (x ∷ xs) =
    at_most (f x) (g x) (sum_by f xs) (sum_by g xs) (sum_by f (x ∷ xs)) (sum_by g (x ∷ xs)) (sum_by-cons f x xs) (sum_by-cons g x xs) (h x) (sum_by-le-sum_by f g h xs)

module _ (storage : Storage) (lookups : Lookups) where
  pub values_count : sum_by (λ (_ : List ℕ × List ℕ). 1) (fin.entries storage) ≡ fin.len storage
  values_count = sum_by-constant 1 (fin.entries storage) ∙ one (length (fin.entries storage)) ∙ sym (fin.len-entries storage)
    where
      one : (n : ℕ) → 1 * n ≡ n
      one n = omega arith

  pub histories_count : sum_by (λ (_ : (List ℕ × ℕ) × List ℕ). 2) (fin.entries lookups) ≡ 2 * fin.len lookups
  histories_count = sum_by-constant 2 (fin.entries lookups) ∙ ap (λ n. 2 * n) (sym (fin.len-entries lookups))

  pub values_le : sum_by (λ (_ : List ℕ × List ℕ). 1) (fin.entries storage) ≤ storage_octets storage
  values_le = sum_by-le-sum_by (λ _. 1) value_octets (λ e. omega arith) (fin.entries storage)

  pub histories_le : sum_by (λ (_ : (List ℕ × ℕ) × List ℕ). 2) (fin.entries lookups) ≤ lookups_octets lookups
  histories_le = sum_by-le-sum_by (λ _. 2) history_octets (λ e. omega arith) (fin.entries lookups)

pub items_counted : (account : Account) → items_of account ≡ fin.len account.storage + 2 * fin.len account.lookups
items_counted account = omega (arith, values_count account.storage account.lookups, histories_count account.storage account.lookups)

pub items_below : (account : Account) → items_of account ≤ octets_of account
items_below account = omega (arith, values_le account.storage account.lookups, histories_le account.storage account.lookups)

-- a value or a history that is put adds its octets, and takes off those of the one whose place it takes; one that is removed takes off its own
pub value_put : (storage : Storage) (key value : List ℕ) → storage_octets (fin.insert storage key value) + weight_at value_octets storage key ≡ storage_octets storage + value_octets (key, value)
value_put = sum_by-insert nat_list_cmp_total bytes_same value_octets

pub value_removed : (storage : Storage) (key : List ℕ) → storage_octets (fin.remove storage key) + weight_at value_octets storage key ≡ storage_octets storage
value_removed = sum_by-remove nat_list_cmp_total bytes_same value_octets

pub history_put : (lookups : Lookups) (key : List ℕ × ℕ) (history : List ℕ) → lookups_octets (fin.insert lookups key history) + weight_at history_octets lookups key ≡ lookups_octets lookups + history_octets (key, history)
history_put = sum_by-insert hash_and_number_total lookups_same history_octets

pub history_removed : (lookups : Lookups) (key : List ℕ × ℕ) → lookups_octets (fin.remove lookups key) + weight_at history_octets lookups key ≡ lookups_octets lookups
history_removed = sum_by-remove hash_and_number_total lookups_same history_octets
