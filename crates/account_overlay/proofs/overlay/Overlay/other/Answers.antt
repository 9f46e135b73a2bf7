use Rattle.std.proofs.Common.{ap, sym, ◌∙◌}
use Rattle.account_context.specs.Context.{Pair, account_in}
use Rattle.account_overlay.proofs.Overlaid.{account_other}
use Rattle.account_overlay.proofs.overlay.Overlay.other.Goals as goal

pub returns : goal.returns
returns c =
    c.get.ensures ∙ sym (account_other c.self.inside.service c.self.inside.others c.self.inside.own c.self.inside.issued c.args.id (λ same. c.requires (same ∙ ap (λ (p : Pair). p.service) c.self.view_is)))
    ∙ ap (λ (p : Pair). account_in p c.args.id) c.self.view_is
