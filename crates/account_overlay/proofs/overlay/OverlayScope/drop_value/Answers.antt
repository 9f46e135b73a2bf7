use Rattle.std.proofs.Common.{ap, ◌∙◌}
use Rattle.account_context.specs.Context.{Pair, change_own, without_value}
use Rattle.account_overlay.proofs.Overlaid.{one_ok, own_changed}
use Rattle.account_overlay.proofs.overlay.OverlayScope.drop_value.Goals as goal

pub returns-clause-ok : goal.returns-clause-ok
returns-clause-ok c = one_ok c.set_value.result c.set_value.ensures.ok (λ same. own_changed c.self.inside.service c.self.inside.others c.self.inside.own c.self.inside.issued (without_value c.args.key.now) c.set_value.new.self same ∙ ap (λ (p : Pair). change_own (without_value c.args.key.now) p) c.self.view_is)
