-- The own account after a change, and what its balance carries.
use Rattle.std.proofs.Common.{◌≡◌, ℕ, ◌≤◌, ◌<◌, ◌^◌, Bool, true, false, Option, Some, None, IsSome, unwrap_or, is_some, refl, sym, ap, ◌∙◌, subst, arith}
use Rattle.std.specs.Prelude.{T, nat_lt, if◌then◌else◌}
use Rattle.std.proofs.lemmas.Bool.{lt-ltb, ltb-false}
use Rattle.jam_accounts.specs.Accounts.{Account}
use Rattle.jam_accounts.specs.Footprint.{Footprint, footprint_of, threshold_of, octets_of}
use Rattle.account_context.specs.declared.account_view.AccountView.{AccountView}
use Rattle.account_context.specs.Context.{Pair, account_in, own_account, view_of, change_own, fitting_footprint}
use Rattle.account_context.specs.ContextLaws.{own_account-changed}
use Rattle.host_general.specs.Deposits.{deposit, is_overdrawn}

fits_as : (b : Bool) (f g : Footprint) → Some f ≡ (if b then Some g else None) → f ≡ g
fits_as true f g is = ap (λ (found : Option Footprint). unwrap_or found f) is
fits_as false f g is = absurd (subst T (ap is_some is) tt)

fits_not : (b : Bool) (g : Footprint) → None ≡ (if b then Some g else None) → b ≡ false
fits_not true g is = absurd (subst T (sym (ap is_some is)) tt)
fits_not false g is = refl

-- an account whose octets are no account's needs more than a balance can be
overdrawn_beyond : (account : Account) → account.balance < 2 ^ 64 → account.gratis < 2 ^ 64 → None ≡ fitting_footprint account → true ≡ is_overdrawn account
overdrawn_beyond account balance gratis none =
    let beyond : 2 ^ 100 ≤ octets_of account = ltb-false (octets_of account) (2 ^ 100) (fits_not (nat_lt (octets_of account) (2 ^ 100)) (footprint_of account) none) in
    sym (lt-ltb account.balance (deposit account) (omega (arith, balance, gratis, beyond)))

module _ (pair : Pair) (there : IsSome (account_in pair pair.service)) (change : Account → Account) (view : AccountView) (is : view ≡ view_of (own_account pair))
    (balance : (change (own_account pair)).balance ≡ (own_account pair).balance) (gratis : (change (own_account pair)).gratis ≡ (own_account pair).gratis) where
  same_balance : view.balance ≡ (own_account (change_own change pair)).balance
  same_balance = ap (λ (v : AccountView). v.balance) is ∙ sym balance ∙ sym (ap (λ (a : Account). a.balance) (own_account-changed change pair there))

  same_gratis : view.gratis ≡ (own_account (change_own change pair)).gratis
  same_gratis = ap (λ (v : AccountView). v.gratis) is ∙ sym gratis ∙ sym (ap (λ (a : Account). a.gratis) (own_account-changed change pair there))

  -- the balance is below what that footprint needs
  pub short_of : (f : Footprint) → f ≡ footprint_of (own_account (change_own change pair))
      → nat_lt view.balance (threshold_of f view.gratis) ≡ is_overdrawn (own_account (change_own change pair))
  short_of f fits =
      ap (λ (b : ℕ). nat_lt b (threshold_of f view.gratis)) same_balance
      ∙ ap (λ (g : ℕ). nat_lt (own_account (change_own change pair)).balance (threshold_of f g)) same_gratis
      ∙ ap (λ (p : Footprint). nat_lt (own_account (change_own change pair)).balance (threshold_of p (own_account (change_own change pair)).gratis)) fits

  pub short_of_fitting : (f : Footprint) → Some f ≡ fitting_footprint (own_account (change_own change pair))
      → nat_lt view.balance (threshold_of f view.gratis) ≡ is_overdrawn (own_account (change_own change pair))
  short_of_fitting f fits = short_of f (fits_as (nat_lt (octets_of (own_account (change_own change pair))) (2 ^ 100)) f (footprint_of (own_account (change_own change pair))) fits)

  pub short_beyond : view.balance < 2 ^ 64 → view.gratis < 2 ^ 64 → None ≡ fitting_footprint (own_account (change_own change pair)) → true ≡ is_overdrawn (own_account (change_own change pair))
  short_beyond b g none = overdrawn_beyond (own_account (change_own change pair)) (subst (λ (n : ℕ). n < 2 ^ 64) same_balance b) (subst (λ (n : ℕ). n < 2 ^ 64) same_gratis g) none
