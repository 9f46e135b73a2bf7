use Rattle.std.proofs.Common.{sym, subst, ◌∙◌, Vec, ℕ, List, Global}
use Rattle.std.specs.List.{each_same}
use Rattle.jam_accounts.specs.Accounts.{StandUnderDigests, bytes_cmp}
use Rattle.jam_accounts.specs.MapLaws.{cloned}
use Rattle.jam_accounts.proofs.preimages.Preimages.copy.Goals as goal

pub invariant_of-result : goal.invariant_of-result
invariant_of-result c =
    subst StandUnderDigests (sym (cloned bytes_cmp (λ (k : List ℕ). k) (λ (v : Vec ℕ Global). v.items) c.self.inside.map c.in_ok-clone.field-0 c.in_ok-clone.ensures.cases (λ h k is. each_same h k is.whole) (λ v w is. each_same v.items w.items is.0))) c.self.invariant

pub returns : goal.returns
returns c =
    cloned bytes_cmp (λ (k : List ℕ). k) (λ (v : Vec ℕ Global). v.items) c.self.inside.map c.in_ok-clone.field-0 c.in_ok-clone.ensures.cases (λ h k is. each_same h k is.whole) (λ v w is. each_same v.items w.items is.0) ∙ c.self.view_is
