use Rattle.std.proofs.Common.{ap, ◌∙◌}
use Rattle.account_overlay.specs.Others.{AccountsOver, added_in}
use Rattle.account_overlay.proofs.Added.{added_alike}
use Rattle.account_overlay.proofs.others.Others.into_added.Goals as goal

pub returns : goal.returns
returns c =
    c.keep_added.ensures ∙ ap (added_in c.self.inside.base.now) c.in_ok-accounts.ensures ∙ added_alike c.self.inside.base.now c.self.inside.layer.places.entries
    ∙ ap (λ (o : AccountsOver). added_in o.base o.now) c.self.view_is
