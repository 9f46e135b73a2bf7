-- How the values that contracts see are coded as numbers, which the checker asks for.
use Rattle.std.specs.Prelude.{refl}
use Rattle.std.specs.Coded.{Coded, code_by, coded×, coded_ℕ, coded_list}
use Rattle.std.specs.FinMap as fin
use Rattle.jam_accounts.specs.Accounts.{Account, Accounts, State, Storage, Preimages, Lookups}
use Rattle.jam_accounts.specs.Fields.{AccountFields, account_fields, account_from, StateFields, state_fields, state_from}

abbrev pub coded_storage : Coded Storage
coded_storage = fin.code (coded_list coded_ℕ) (coded_list coded_ℕ)

abbrev pub coded_preimages : Coded Preimages
coded_preimages = fin.code (coded_list coded_ℕ) (coded_list coded_ℕ)

abbrev pub coded_lookups : Coded Lookups
coded_lookups = fin.code (coded× (coded_list coded_ℕ) coded_ℕ) (coded_list coded_ℕ)

abbrev pub coded_account : Coded Account
coded_account =
    code_by AccountFields
    (coded× (coded_list coded_ℕ) (coded× coded_ℕ (coded× coded_ℕ (coded× coded_ℕ (coded× coded_ℕ (coded× coded_ℕ (coded× coded_storage (coded× coded_preimages coded_lookups))))))))
    account_fields account_from (λ _. refl)

abbrev pub coded_accounts : Coded Accounts
coded_accounts = fin.code coded_ℕ coded_account

abbrev pub coded_state : Coded State
coded_state = code_by StateFields (coded× coded_ℕ (coded× coded_ℕ (coded× (coded_list coded_ℕ) coded_accounts))) state_fields state_from (λ _. refl)
