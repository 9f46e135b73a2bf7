-- Services that words name, and the balance that an account's deposits ask for (Gray Paper 0.7.0, chapter 9 and appendix B).
use Rattle.std.specs.Prelude.{ℕ, Bool, nat_lt, List, length, Option, Some, None}
use Rattle.std.specs.Option.{option_and_then}
use Rattle.jam_accounts.specs.Accounts.{Account}
use Rattle.jam_accounts.specs.Footprint.{footprint_of, threshold_of}
use Rattle.account_context.specs.Context.{Pair, account_in}
use Rattle.call_parts.specs.Calls.{service_named, result_none}

-- what a word is asked of: the account of the service that it names
abbrev pub account_named : Pair → ℕ → Option Account
account_named pair word = option_and_then (account_in pair) (service_named pair.service word)

-- the balance that the account needs
abbrev pub deposit : Account → ℕ
deposit account = threshold_of (footprint_of account) account.gratis

-- it has less than that
abbrev pub is_overdrawn : Account → Bool
is_overdrawn account = nat_lt account.balance (deposit account)

abbrev pub length_or_none : Option (List ℕ) → ℕ
length_or_none None = result_none
length_or_none (Some value) = length value
