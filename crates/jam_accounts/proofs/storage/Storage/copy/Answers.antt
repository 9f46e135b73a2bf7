use Rattle.std.proofs.Common.{◌∙◌, Vec, ℕ, Global}
use Rattle.std.specs.List.{each_same}
use Rattle.jam_accounts.specs.Accounts.{bytes_cmp}
use Rattle.jam_accounts.specs.MapLaws.{cloned}
use Rattle.jam_accounts.proofs.storage.Storage.copy.Goals as goal

pub returns : goal.returns
returns c =
    cloned bytes_cmp (λ (k : Vec ℕ Global). k.items) (λ (v : Vec ℕ Global). v.items) c.self.inside.map c.in_ok-clone.field-0 c.in_ok-clone.ensures.cases
    (λ v w is. each_same v.items w.items is.0) (λ v w is. each_same v.items w.items is.0)
    ∙ c.self.view_is
