use Rattle.std.proofs.Common.{ap, ◌∙◌}
use Rattle.account_context.specs.Context.{Pair, change_own, without_preimage}
use Rattle.account_overlay.proofs.Overlaid.{one_ok, own_changed}
use Rattle.account_overlay.proofs.overlay.OverlayScope.drop_preimage.Goals as goal

pub returns-clause-ok : goal.returns-clause-ok
returns-clause-ok c = one_ok c.drop_preimage.result c.drop_preimage.ensures.ok (λ same. own_changed c.self.inside.service c.self.inside.others c.self.inside.own c.self.inside.issued (without_preimage c.args.hash.now) c.drop_preimage.new.self same ∙ ap (λ (p : Pair). change_own (without_preimage c.args.hash.now) p) c.self.view_is)
