-- The changes of a context, as data.
use Rattle.std.specs.Prelude.{ℕ, ◌==◌, Bool, false, List, [], ◌∷◌, Option}
use Rattle.jam_accounts.specs.Accounts.{Account}
use Rattle.account_context.specs.declared.transfer.Transfer.{Transfer}
use Rattle.account_context.specs.Context.{Pair, put_value, drop_value, set_history, drop_preimage, set_balance, set_code, add_account, remove_account, push_transfer, set_yield, push_provided}

pub data ContextChange : Type 0 where
  puts_value : (key value : List ℕ) → ContextChange
  drops_value : (key : List ℕ) → ContextChange
  sets_history : (hash : List ℕ) (length : ℕ) (history : Option (List ℕ)) → ContextChange
  drops_preimage : (hash : List ℕ) → ContextChange
  sets_balance : (balance : ℕ) → ContextChange
  sets_code : (code_hash : List ℕ) (min_accumulate min_transfer : ℕ) → ContextChange
  adds_account : (id : ℕ) (account : Account) → ContextChange
  removes_account : (id : ℕ) → ContextChange
  pushes_transfer : (transfer : Transfer) → ContextChange
  sets_yield : (hash : List ℕ) → ContextChange
  pushes_provided : (service : ℕ) (bytes : List ℕ) → ContextChange

abbrev pub after_change : Pair → ContextChange → Pair
after_change pair (puts_value key value) = put_value pair key value
after_change pair (drops_value key) = drop_value pair key
after_change pair (sets_history hash length history) = set_history pair hash length history
after_change pair (drops_preimage hash) = drop_preimage pair hash
after_change pair (sets_balance balance) = set_balance pair balance
after_change pair (sets_code code_hash min_accumulate min_transfer) = set_code pair code_hash min_accumulate min_transfer
after_change pair (adds_account id account) = add_account pair id account
after_change pair (removes_account id) = remove_account pair id
after_change pair (pushes_transfer transfer) = push_transfer pair transfer
after_change pair (sets_yield hash) = set_yield pair hash
after_change pair (pushes_provided service bytes) = push_provided pair service bytes

-- after all of them, in their order
abbrev pub after_changes : Pair → List ContextChange → Pair
after_changes pair [] = pair
after_changes pair (change ∷ changes) = after_changes (after_change pair change) changes

-- whether the change adds an account with this number, or removes it
abbrev pub adds_or_removes : ContextChange → ℕ → Bool
adds_or_removes (adds_account added account) id = added == id
adds_or_removes (removes_account removed) id = removed == id
adds_or_removes change id = false
