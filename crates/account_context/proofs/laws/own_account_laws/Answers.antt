use Rattle.std.proofs.Common.{◌+◌, ℕ, List, Some, None, ap, ◌∙◌}
use Rattle.jam_accounts.specs.Accounts.{Account}
use Rattle.jam_accounts.specs.Footprint.{items_of, octets_of, value_octets, history_octets, weight_at}
use Rattle.account_context.specs.Context.{own_account, with_value, without_value, with_history}
use Rattle.account_context.specs.ContextLaws.{own_account-changed, octets-with_value, items-with_value, octets-without_value, octets-with_history, octets-without_history}
use Rattle.account_context.proofs.laws.own_account_laws.Goals as goal

pub returns : goal.returns
returns c = record {
  octets_with_value = λ pair key value there.
      ap (λ (own : Account). octets_of own + weight_at value_octets (own_account pair).storage key) (own_account-changed (with_value key value) pair there) ∙ octets-with_value (own_account pair) key value;
  items_with_value = λ pair key value there.
      ap (λ (own : Account). items_of own + weight_at (λ (entry : List ℕ × List ℕ). 1) (own_account pair).storage key) (own_account-changed (with_value key value) pair there) ∙ items-with_value (own_account pair) key value;
  octets_without_value = λ pair key there.
      ap (λ (own : Account). octets_of own + weight_at value_octets (own_account pair).storage key) (own_account-changed (without_value key) pair there) ∙ octets-without_value (own_account pair) key;
  octets_with_history = λ pair hash length history there.
      ap (λ (own : Account). octets_of own + weight_at history_octets (own_account pair).lookups (hash, length)) (own_account-changed (with_history hash length (Some history)) pair there) ∙ octets-with_history (own_account pair) hash length history;
  octets_without_history = λ pair hash length there.
      ap (λ (own : Account). octets_of own + weight_at history_octets (own_account pair).lookups (hash, length)) (own_account-changed (with_history hash length None) pair there) ∙ octets-without_history (own_account pair) hash length;
}
