-- The host calls that change accounts (Gray Paper 0.7.0, appendix B; the registers, the order of refusals, provide and what gratis waives
-- are this project's own): a definition for each row of their table. A call by itself costs what every call does; transfer costs the
-- gas that it sends, too.
use Rattle.std.specs.Prelude.{ℕ, Bool, true, false, ◌+◌, ◌-◌, ◌^◌, ◌==◌, ◌&&◌, not, nat_lt, nat_le, min, List, [], ◌∷◌, ◌++◌, length, replicate, Option, Some, None, Result, Ok, Err, if◌then◌else◌}
use Rattle.std.specs.Option.{option_map, option_and_then}
use Rattle.std.specs.List.{list_any}
use Rattle.std.specs.Str.{bytes_eq}
use Rattle.std.specs.FinMap as fin
use Rattle.byte_numbers.specs.Numbers.{little_endian}
use Rattle.blake2b_core.specs.Blake2b.{digest}
use Rattle.preimage_store.specs.History.{solicit, forget, is_expunged, query_words}
use Rattle.preimage_store.specs.declared.history.Huh.{Huh}
use Rattle.preimage_store.specs.declared.history.Forgot.{Forgot}
use Rattle.preimage_store.specs.declared.history.Forgot.TheVariants.{Dropped, Kept}
use Rattle.jam_accounts.specs.Accounts.{Account}
use Rattle.jam_accounts.specs.Footprint.{items_of, octets_of}
use Rattle.account_context.specs.declared.provided.Provided.{Provided}
use Rattle.account_context.specs.Context.{Pair, account_in, own_account, history_in, set_balance, set_code, set_history, drop_preimage, add_account, remove_account, push_transfer, push_provided, set_yield, checkpoint}
use Rattle.account_context.specs.FreeIds.{free_id}
use Rattle.pvm_step.specs.declared.exit.HostStep.TheVariants.{Go}
use Rattle.pvm_step.specs.Machine.{Machine}
use Rattle.call_parts.specs.Calls.{CallOutcome, word, with_word, paying, taking, answering, call_charge, service_named, result_ok, result_none, result_who, result_full, result_cash, result_low, result_huh}
use Rattle.host_general.specs.Deposits.{deposit, is_overdrawn}

-- ---- What rows have in common

-- the service that a word names, with its account
abbrev pub service_there : Pair → ℕ → Option (ℕ × Account)
service_there pair word = option_and_then (λ id. option_map (λ account. (id, account)) (account_in pair id)) (service_named pair.service word)

-- the balance carries an amount beside the deposits
abbrev pub can_spend : Account → ℕ → Bool
can_spend account amount = nat_le (deposit account + amount) account.balance

-- the history of a hash with a length, of a service: none from 2 ^ 32 on
abbrev pub history_asked : Pair → ℕ → List ℕ → ℕ → Option (List ℕ)
history_asked pair service hash length = if nat_lt length (2 ^ 32) then history_in pair service hash length else None

-- ---- 17: checkpoint

abbrev pub checkpoint_call : Pair → Machine → CallOutcome Pair
checkpoint_call pair m = paying call_charge m pair (λ m. answering m.gas m (checkpoint pair))

-- ---- 18: new

-- what a new service has to have, which asks for one preimage: its code
abbrev pub first_deposit : ℕ → ℕ
first_deposit length = 201 + length

abbrev pub new_account : ℕ → List ℕ → ℕ → ℕ → ℕ → Account
new_account slot hash length min_accumulate min_transfer = record {
  code_hash = hash;
  balance = first_deposit length;
  min_accumulate = min_accumulate;
  min_transfer = min_transfer;
  gratis = 0;
  created = slot;
  storage = fin.empty;
  preimages = fin.empty;
  lookups = fin.insert fin.empty (hash, length) [];
}

-- the account is there under a number, and the own balance has paid its deposit
abbrev pub adds : Pair → Option ℕ → Account → Machine → CallOutcome Pair
adds pair None account m = answering result_full m pair
adds pair (Some id) account m =
    if can_spend (own_account pair) account.balance
    then answering id m (set_balance (add_account pair id account) ((own_account pair).balance - account.balance))
    else answering result_cash m pair

abbrev pub new_call : ℕ → Pair → Machine → CallOutcome Pair
new_call slot pair m = paying call_charge m pair (λ m. taking (word m 7) 32 m pair (λ hash.
    if nat_lt (word m 8) (2 ^ 32) then adds pair (free_id pair) (new_account slot hash (word m 8) (word m 9) (word m 10)) m
    else answering result_huh m pair))

-- ---- 19: upgrade

abbrev pub upgrade_call : Pair → Machine → CallOutcome Pair
upgrade_call pair m = paying call_charge m pair (λ m. taking (word m 7) 32 m pair (λ hash.
    answering result_ok m (set_code pair hash (word m 8) (word m 9))))

-- ---- 20: transfer

abbrev pub sent : Pair → ℕ → ℕ → ℕ → List ℕ → Pair
sent pair target amount gas memo =
    push_transfer (set_balance pair ((own_account pair).balance - amount))
    (record { source = pair.service; target = target; amount = amount; gas = gas; memo = memo })

abbrev pub sends : Pair → Option (ℕ × Account) → ℕ → ℕ → List ℕ → Machine → CallOutcome Pair
sends pair None amount gas memo m = answering result_who m pair
sends pair (Some (target, account)) amount gas memo m =
    if nat_lt gas account.min_transfer then answering result_low m pair
    else if can_spend (own_account pair) amount then answering result_ok m (sent pair target amount gas memo)
    else answering result_cash m pair

abbrev pub transfer_call : Pair → Machine → CallOutcome Pair
transfer_call pair m = paying (call_charge + word m 9) m pair (λ m. taking (word m 10) 128 m pair (λ memo.
    sends pair (service_there pair (word m 7)) (word m 8) (word m 9) memo m))

-- ---- 21: eject

-- the code hash by which a service is given up to another
abbrev pub given_up_to : ℕ → List ℕ
given_up_to service = little_endian 4 service ++ replicate 28 0

abbrev pub may_eject : Pair → ℕ → Account → Bool
may_eject pair id account = not (id == pair.service) && bytes_eq account.code_hash (given_up_to pair.service)

-- it was asked for, given and forgotten, and the period is over
abbrev pub is_over : ℕ → Option (List ℕ) → Bool
is_over slot None = false
is_over slot (Some []) = false
is_over slot (Some (x ∷ [])) = false
is_over slot (Some (x ∷ y ∷ [])) = is_expunged y slot
is_over slot (Some (x ∷ y ∷ z ∷ more)) = false

-- all that the account keeps is the history of one hash, which is over
abbrev pub is_emptied : ℕ → Pair → ℕ → Account → List ℕ → Bool
is_emptied slot pair id account hash =
    (items_of account == 2) && nat_le 81 (octets_of account) && is_over slot (history_asked pair id hash (octets_of account - 81))

abbrev pub ejected : Pair → ℕ → Account → Pair
ejected pair id account = set_balance (remove_account pair id) (min ((own_account pair).balance + account.balance) (2 ^ 64 - 1))

abbrev pub ejects : ℕ → Pair → Option (ℕ × Account) → List ℕ → Machine → CallOutcome Pair
ejects slot pair None hash m = answering result_who m pair
ejects slot pair (Some (id, account)) hash m =
    if may_eject pair id account
    then (if is_emptied slot pair id account hash then answering result_ok m (ejected pair id account) else answering result_huh m pair)
    else answering result_who m pair

abbrev pub eject_call : ℕ → Pair → Machine → CallOutcome Pair
eject_call slot pair m = paying call_charge m pair (λ m. taking (word m 8) 32 m pair (λ hash. ejects slot pair (service_there pair (word m 7)) hash m))

-- ---- 22: query

abbrev pub history_words : Option (List ℕ) → ℕ × ℕ
history_words None = (result_none, 0)
history_words (Some history) = query_words history

-- two results, in the registers 7 and 8
abbrev pub answering_two : ℕ × ℕ → Machine → CallOutcome (Unit {0})
answering_two words m = record { answer = Go; machine = with_word (with_word m 7 words.0) 8 words.1; context = tt }

abbrev pub query_call : Pair → Machine → CallOutcome (Unit {0})
query_call pair m = paying call_charge m tt (λ m. taking (word m 7) 32 m tt (λ hash.
    answering_two (history_words (history_asked pair pair.service hash (word m 8))) m))

-- ---- 23: solicit

-- the pair with a history, unless the own balance would be too low then
abbrev pub asks : Pair → Pair → Machine → CallOutcome Pair
asks pair after m = if is_overdrawn (own_account after) then answering result_full m pair else answering result_ok m after

abbrev pub solicits : Pair → List ℕ → ℕ → Result (List ℕ) Huh → Machine → CallOutcome Pair
solicits pair hash length (Err huh) m = answering result_huh m pair
solicits pair hash length (Ok history) m = asks pair (set_history pair hash length (Some history)) m

abbrev pub solicit_call : ℕ → Pair → Machine → CallOutcome Pair
solicit_call slot pair m = paying call_charge m pair (λ m. taking (word m 7) 32 m pair (λ hash.
    if nat_lt (word m 8) (2 ^ 32) then solicits pair hash (word m 8) (solicit (history_in pair pair.service hash (word m 8)) slot) m
    else answering result_huh m pair))

-- ---- 24: forget

-- a history that is dropped takes its preimage with it
abbrev pub forgotten : Pair → List ℕ → ℕ → Forgot → Pair
forgotten pair hash length Dropped = drop_preimage (set_history pair hash length None) hash
forgotten pair hash length (Kept history) = set_history pair hash length (Some history)

abbrev pub forgets : Pair → List ℕ → ℕ → Result Forgot Huh → Machine → CallOutcome Pair
forgets pair hash length (Err huh) m = answering result_huh m pair
forgets pair hash length (Ok left) m = answering result_ok m (forgotten pair hash length left)

abbrev pub forgets_there : ℕ → Pair → List ℕ → ℕ → Option (List ℕ) → Machine → CallOutcome Pair
forgets_there slot pair hash length None m = answering result_huh m pair
forgets_there slot pair hash length (Some history) m = forgets pair hash length (forget history slot) m

abbrev pub forget_call : ℕ → Pair → Machine → CallOutcome Pair
forget_call slot pair m = paying call_charge m pair (λ m. taking (word m 7) 32 m pair (λ hash.
    forgets_there slot pair hash (word m 8) (history_asked pair pair.service hash (word m 8)) m))

-- ---- 25: yield

abbrev pub yield_call : Pair → Machine → CallOutcome Pair
yield_call pair m = paying call_charge m pair (λ m. taking (word m 7) 32 m pair (λ hash. answering result_ok m (set_yield pair hash)))

-- ---- 26: provide

abbrev pub is_provided : List Provided → ℕ → List ℕ → Bool
is_provided provided service bytes = list_any (λ (p : Provided). (p.service == service) && bytes_eq p.bytes bytes) provided

-- it was asked for and never given
abbrev pub is_awaited : Option (List ℕ) → Bool
is_awaited None = false
is_awaited (Some []) = true
is_awaited (Some (x ∷ more)) = false

abbrev pub provides : Pair → Option (ℕ × Account) → List ℕ → Machine → CallOutcome Pair
provides pair None bytes m = answering result_who m pair
provides pair (Some (id, account)) bytes m =
    if is_awaited (history_asked pair id (digest bytes) (length bytes)) && not (is_provided pair.now.provided id bytes)
    then answering result_ok m (push_provided pair id bytes)
    else answering result_huh m pair

abbrev pub provide_call : Pair → Machine → CallOutcome Pair
provide_call pair m = paying call_charge m pair (λ m. taking (word m 8) (word m 9) m pair (λ bytes. provides pair (service_there pair (word m 7)) bytes m))
