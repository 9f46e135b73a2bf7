-- How the values that contracts see are coded as numbers, which the checker asks for.
use Rattle.std.specs.Prelude.{ℕ, List, Option, refl}
use Rattle.std.specs.Coded.{Coded, code_by, coded×, coded_ℕ, coded_list, coded_option}
use Rattle.jam_accounts.specs.Accounts.{Accounts}
use Rattle.jam_accounts.specs.Coded.{coded_accounts}
use Rattle.account_context.specs.declared.transfer.Transfer.{Transfer}
use Rattle.account_context.specs.declared.provided.Provided.{Provided}
use Rattle.account_context.specs.Context.{Context, Pair}

abbrev pub coded_transfer : Coded Transfer
coded_transfer =
    code_by (ℕ × (ℕ × (ℕ × (ℕ × List ℕ)))) (coded× coded_ℕ (coded× coded_ℕ (coded× coded_ℕ (coded× coded_ℕ (coded_list coded_ℕ)))))
    (λ t. (t.source, (t.target, (t.amount, (t.gas, t.memo))))) (λ p. record { source = p.0; target = p.1.0; amount = p.1.1.0; gas = p.1.1.1.0; memo = p.1.1.1.1 }) (λ _. refl)

abbrev pub coded_provided : Coded Provided
coded_provided = code_by (ℕ × List ℕ) (coded× coded_ℕ (coded_list coded_ℕ)) (λ p. (p.service, p.bytes)) (λ p. record { service = p.0; bytes = p.1 }) (λ _. refl)

abbrev pub coded_context : Coded Context
coded_context =
    code_by (Accounts × (ℕ × (List Transfer × (Option (List ℕ) × List Provided))))
    (coded× coded_accounts (coded× coded_ℕ (coded× (coded_list coded_transfer) (coded× (coded_option (coded_list coded_ℕ)) (coded_list coded_provided)))))
    (λ c. (c.accounts, (c.candidate, (c.transfers, (c.yielded, c.provided)))))
    (λ p. record { accounts = p.0; candidate = p.1.0; transfers = p.1.1.0; yielded = p.1.1.1.0; provided = p.1.1.1.1 }) (λ _. refl)

abbrev pub coded_pair : Coded Pair
coded_pair =
    code_by (Accounts × (ℕ × (Context × Context))) (coded× coded_accounts (coded× coded_ℕ (coded× coded_context coded_context)))
    (λ p. (p.base, (p.service, (p.now, p.saved)))) (λ p. record { base = p.0; service = p.1.0; now = p.1.1.0; saved = p.1.1.1 }) (λ _. refl)
