-- An account that is taken out, changed and put back.
use Rattle.std.proofs.Common.{◌≡◌, ℕ, Some, IsSome, refl, sym, ap, subst, ◌∙◌}
use Rattle.std.specs.Cmp.{nat_cmp_total}
use Rattle.std.specs.FinMap as fin
use Rattle.std.specs.FinMap.{nat_cmp-IsAntisymmetric}
use Rattle.jam_accounts.specs.Accounts.{Account, Accounts}
use Rattle.jam_accounts.specs.PutBackLaws.{inserted_twice, inserted_same}
use Rattle.account_context.specs.Context.{changed_account}
use Rattle.account_context.specs.ContextLaws.{get-put, changed_there}

module _ (accounts meanwhile after : Accounts) (id : ℕ) (other account next : Account)
    (there : Some account ≡ fin.get accounts id) (put : meanwhile ≡ fin.insert accounts id other) (back : after ≡ fin.insert meanwhile id next) where
  in_place : after ≡ fin.insert accounts id next
  in_place = back ∙ ap (λ m. fin.insert m id next) put ∙ inserted_twice nat_cmp_total nat_cmp-IsAntisymmetric accounts id other next

  pub put_changed : (change : Account → Account) → next ≡ change account → after ≡ changed_account change accounts id (fin.get accounts id)
  put_changed change is = in_place ∙ ap (fin.insert accounts id) is ∙ sym (changed_there accounts id change account (sym there))

  pub put_unchanged : next ≡ account → after ≡ accounts
  put_unchanged is = in_place ∙ ap (fin.insert accounts id) is ∙ inserted_same nat_cmp_total nat_cmp-IsAntisymmetric accounts id account (sym there)

-- another stands in the place meanwhile
pub held_place : (accounts meanwhile : Accounts) (id : ℕ) (other : Account) → meanwhile ≡ fin.insert accounts id other → IsSome (fin.get meanwhile id)
held_place accounts meanwhile id other put = subst IsSome (sym (ap (λ m. fin.get m id) put ∙ get-put accounts id other)) refl
