use Rattle.std.proofs.Common.{sym, subst, ◌∙◌, ℕ, List}
use Rattle.std.specs.List.{each_same}
use Rattle.jam_codec.specs.Lists.{hash_and_number_cmp}
use Rattle.jam_accounts.specs.Accounts.{HaveShortLengths}
use Rattle.jam_accounts.specs.MapLaws.{cloned}
use Rattle.jam_accounts.proofs.lookups.Lookups.copy.Goals as goal

pub invariant_of-result : goal.invariant_of-result
invariant_of-result c =
    subst HaveShortLengths (sym (cloned hash_and_number_cmp (λ (k : List ℕ × ℕ). k) (λ (v : List ℕ). v) c.self.inside.map c.in_ok-clone.field-0 c.in_ok-clone.ensures.cases
    (λ h k is i. (each_same h.0 k.0 is.0.whole i, is.1 i)) (λ v w is. is))) c.self.invariant

pub returns : goal.returns
returns c =
    cloned hash_and_number_cmp (λ (k : List ℕ × ℕ). k) (λ (v : List ℕ). v) c.self.inside.map c.in_ok-clone.field-0 c.in_ok-clone.ensures.cases
    (λ h k is i. (each_same h.0 k.0 is.0.whole i, is.1 i)) (λ v w is. is)
    ∙ c.self.view_is
