-- The general host calls (Gray Paper 0.7.0, appendix B; the registers, the order of refusals and the bytes that they give are this
-- project's own): a definition for each row of their table. A call by itself costs what every call does.
use Rattle.std.specs.Prelude.{ℕ, Bool, ◌^◌, ◌-◌, ◌==◌, min, List, ◌++◌, Option, if◌then◌else◌}
use Rattle.std.specs.Option.{option_map, option_and_then}
use Rattle.std.specs.FinMap as fin
use Rattle.byte_numbers.specs.Numbers.{little_endian}
use Rattle.jam_accounts.specs.Footprint.{threshold_of}
use Rattle.account_context.specs.declared.account_view.AccountView.{AccountView}
use Rattle.account_context.specs.Context.{Pair, view_of, own_account, put_value, drop_value}
use Rattle.pvm_step.specs.Machine.{Machine}
use Rattle.call_parts.specs.Calls.{CallOutcome, word, paying, taking, giving, answering, call_charge, result_what, result_full}
use Rattle.host_general.specs.Inputs.{Inputs, fetched}
use Rattle.host_general.specs.Deposits.{account_named, is_overdrawn, length_or_none}

-- ---- 0, and every number that no call has

-- the gas that is left
abbrev pub gas_call : Machine → CallOutcome (Unit {0})
gas_call m = paying call_charge m tt (λ m. answering m.gas m tt)

abbrev pub unknown_call : Machine → CallOutcome (Unit {0})
unknown_call m = paying call_charge m tt (λ m. answering result_what m tt)

-- ---- 1 to 3, and 5: a value is given

abbrev pub fetch_call : Inputs → Machine → CallOutcome (Unit {0})
fetch_call inputs m = paying call_charge m tt (λ m. giving (fetched inputs (word m 10) (word m 11)) (word m 7) (word m 8) (word m 9) m tt)

abbrev pub preimage_named : Pair → ℕ → List ℕ → Option (List ℕ)
preimage_named pair service hash = option_and_then (λ account. fin.get account.preimages hash) (account_named pair service)

abbrev pub lookup_call : Pair → Machine → CallOutcome (Unit {0})
lookup_call pair m = paying call_charge m tt (λ m. taking (word m 8) 32 m tt (λ hash.
    giving (preimage_named pair (word m 7) hash) (word m 9) (word m 10) (word m 11) m tt))

abbrev pub value_named : Pair → ℕ → List ℕ → Option (List ℕ)
value_named pair service key = option_and_then (λ account. fin.get account.storage key) (account_named pair service)

abbrev pub read_call : Pair → Machine → CallOutcome (Unit {0})
read_call pair m = paying call_charge m tt (λ m. taking (word m 8) (word m 9) m tt (λ key.
    giving (value_named pair (word m 7) key) (word m 10) (word m 11) (word m 12) m tt))

-- at most the greatest number of eight bytes
abbrev pub eight_bytes : ℕ → List ℕ
eight_bytes number = little_endian 8 (min number (2 ^ 64 - 1))

-- what info says of an account
abbrev pub info_text : AccountView → List ℕ
info_text view =
    view.code_hash ++ eight_bytes view.balance ++ eight_bytes (threshold_of view.footprint view.gratis) ++ eight_bytes view.min_accumulate
    ++ eight_bytes view.min_transfer ++ eight_bytes view.footprint.octets ++ eight_bytes view.footprint.items ++ eight_bytes view.gratis
    ++ little_endian 4 view.created

abbrev pub view_named : Pair → ℕ → Option AccountView
view_named pair service = option_map view_of (account_named pair service)

abbrev pub info_call : Pair → Machine → CallOutcome (Unit {0})
info_call pair m = paying call_charge m tt (λ m. giving (option_map info_text (view_named pair (word m 7))) (word m 8) (word m 9) (word m 10) m tt)

-- ---- 4: write

-- the value under a key is put there, or the key's is dropped
abbrev pub written : Pair → List ℕ → List ℕ → Bool → Pair
written pair key value drops = if drops then drop_value pair key else put_value pair key value

-- where the own balance would be too low then, nothing is written; else the length of the value that stood there is the result
abbrev pub writes : Pair → Pair → List ℕ → Machine → CallOutcome Pair
writes pair after key m =
    if is_overdrawn (own_account after) then answering result_full m pair
    else answering (length_or_none (fin.get (own_account pair).storage key)) m after

abbrev pub write_call : Pair → Machine → CallOutcome Pair
write_call pair m = paying call_charge m pair (λ m. taking (word m 7) (word m 8) m pair (λ key. taking (word m 9) (word m 10) m pair (λ value.
    writes pair (written pair key value (word m 10 == 0)) key m)))
