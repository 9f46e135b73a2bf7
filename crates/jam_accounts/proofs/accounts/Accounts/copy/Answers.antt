use Rattle.std.proofs.Common.{◌∙◌, ℕ}
use Rattle.std.specs.Ordering.{nat_cmp}
use Rattle.jam_accounts.specs.Accounts.{Account}
use Rattle.jam_accounts.specs.MapLaws.{cloned}
use Rattle.jam_accounts.proofs.accounts.Accounts.copy.Goals as goal

pub returns : goal.returns
returns c =
    cloned nat_cmp (λ (k : ℕ). k) (λ (v : Account). v) c.self.inside.map c.in_ok-clone.field-0 c.in_ok-clone.ensures.cases (λ h k is. is) (λ v w is. is)
    ∙ c.self.view_is
