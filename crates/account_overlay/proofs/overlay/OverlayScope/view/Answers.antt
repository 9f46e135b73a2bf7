use Rattle.std.proofs.Common.{Some, option_map, ap, sym, ◌∙◌}
use Rattle.account_context.specs.Context.{Pair, view_in, view_of}
use Rattle.account_overlay.proofs.Overlaid.{account_own, account_other}
use Rattle.account_overlay.proofs.overlay.OverlayScope.view.Goals as goal

pub returns-then-id-self : goal.returns-then-id-self
returns-then-id-self c = ap Some c.view.ensures ∙ sym (ap (option_map view_of) (account_own c.self.inside.service c.self.inside.others c.self.inside.own c.self.inside.issued c.args.id c.if-id-self.true)) ∙ ap (λ (p : Pair). view_in p c.args.id) c.self.view_is

pub returns : goal.returns
returns c = c.view-2.ensures ∙ sym (ap (option_map view_of) (account_other c.self.inside.service c.self.inside.others c.self.inside.own c.self.inside.issued c.args.id c.if-id-self.false)) ∙ ap (λ (p : Pair). view_in p c.args.id) c.self.view_is
