use Rattle.std.proofs.Common.{◌<◌, ◌^◌, ap, sym, subst, ◌∙◌}
use Rattle.jam_accounts.specs.Accounts.{Account}
use Rattle.jam_accounts.specs.Footprint.{octets_of}
use Rattle.account_context.specs.Context.{Pair, own_account, change_own, with_history}
use Rattle.account_overlay.proofs.Overlaid.{one_ok, own_changed, own_changed_is}
use Rattle.account_overlay.proofs.overlay.OverlayScope.set_history.Goals as goal

pub set_history-requires : goal.set_history-requires
set_history-requires c =
    subst (λ (a : Account). octets_of a < 2 ^ 100) (own_changed_is c.self.inside.service c.self.inside.others c.self.inside.own c.self.inside.issued (with_history c.args.hash.now c.args.length c.args.history)) (subst (λ (p : Pair). octets_of (own_account (change_own (with_history c.args.hash.now c.args.length c.args.history) p)) < 2 ^ 100) (sym c.self.view_is) c.requires)

pub returns-clause-ok : goal.returns-clause-ok
returns-clause-ok c = one_ok c.set_history.result c.set_history.ensures.ok (λ same. own_changed c.self.inside.service c.self.inside.others c.self.inside.own c.self.inside.issued (with_history c.args.hash.now c.args.length c.args.history) c.set_history.new.self same ∙ ap (λ (p : Pair). change_own (with_history c.args.hash.now c.args.length c.args.history) p) c.self.view_is)
