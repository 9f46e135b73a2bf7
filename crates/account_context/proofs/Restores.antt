-- What changes of a context leave of what was saved, and of the accounts of other services.
use Rattle.std.proofs.Common.{◌≡◌, ◌≢◌, ℕ, false, List, [], ◌∷◌, refl, sym, subst, ◌∙◌, eq-eqb}
use Rattle.std.specs.Prelude.{T, ◌==◌}
use Rattle.account_context.specs.Context.{Pair, account_in, restore}
use Rattle.account_context.specs.Changes.{ContextChange, puts_value, drops_value, sets_history, drops_preimage, sets_balance, sets_code, adds_account, removes_account, pushes_transfer, sets_yield, pushes_provided, after_change, after_changes, adds_or_removes}
use Rattle.account_context.specs.ContextLaws.{other-changed, get-put-other, get-taken-other}

restored_one : (pair : Pair) (change : ContextChange) → restore (after_change pair change) ≡ restore pair
restored_one pair (puts_value key value) = refl
restored_one pair (drops_value key) = refl
restored_one pair (sets_history hash length history) = refl
restored_one pair (drops_preimage hash) = refl
restored_one pair (sets_balance balance) = refl
restored_one pair (sets_code code_hash min_accumulate min_transfer) = refl
restored_one pair (adds_account id account) = refl
restored_one pair (removes_account id) = refl
restored_one pair (pushes_transfer transfer) = refl
restored_one pair (sets_yield hash) = refl
restored_one pair (pushes_provided service bytes) = refl

pub restored_all : (pair : Pair) (changes : List ContextChange) → restore (after_changes pair changes) ≡ restore pair
restored_all pair [] = refl
restored_all pair (change ∷ changes) = restored_all (after_change pair change) changes ∙ restored_one pair change

not_same : (a b : ℕ) → (a == b) ≡ false → b ≢ a
not_same a b other same = subst T (sym (eq-eqb a b (sym same)) ∙ other) tt

pub others_stay : (pair : Pair) (change : ContextChange) (id : ℕ) → id ≢ pair.service → adds_or_removes change id ≡ false → account_in (after_change pair change) id ≡ account_in pair id
others_stay pair (puts_value key value) id apart other = other-changed _ pair id apart
others_stay pair (drops_value key) id apart other = other-changed _ pair id apart
others_stay pair (sets_history hash length history) id apart other = other-changed _ pair id apart
others_stay pair (drops_preimage hash) id apart other = other-changed _ pair id apart
others_stay pair (sets_balance balance) id apart other = other-changed _ pair id apart
others_stay pair (sets_code code_hash min_accumulate min_transfer) id apart other = other-changed _ pair id apart
others_stay pair (adds_account added account) id apart other = get-put-other pair.now.accounts added account id (not_same added id other)
others_stay pair (removes_account removed) id apart other = get-taken-other pair.now.accounts removed id (not_same removed id other)
others_stay pair (pushes_transfer transfer) id apart other = refl
others_stay pair (sets_yield hash) id apart other = refl
others_stay pair (pushes_provided service bytes) id apart other = refl
