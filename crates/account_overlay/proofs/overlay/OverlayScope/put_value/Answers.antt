use Rattle.std.proofs.Common.{◌<◌, ◌^◌, ap, sym, subst, ◌∙◌}
use Rattle.jam_accounts.specs.Accounts.{Account}
use Rattle.jam_accounts.specs.Footprint.{octets_of}
use Rattle.account_context.specs.Context.{Pair, own_account, change_own, with_value}
use Rattle.account_overlay.proofs.Overlaid.{one_ok, own_changed, own_changed_is}
use Rattle.account_overlay.proofs.overlay.OverlayScope.put_value.Goals as goal

pub set_value-requires : goal.set_value-requires
set_value-requires c =
    subst (λ (a : Account). octets_of a < 2 ^ 100) (own_changed_is c.self.inside.service c.self.inside.others c.self.inside.own c.self.inside.issued (with_value c.args.key.now c.args.value.now)) (subst (λ (p : Pair). octets_of (own_account (change_own (with_value c.args.key.now c.args.value.now) p)) < 2 ^ 100) (sym c.self.view_is) c.requires)

pub returns-clause-ok : goal.returns-clause-ok
returns-clause-ok c = one_ok c.set_value.result c.set_value.ensures.ok (λ same. own_changed c.self.inside.service c.self.inside.others c.self.inside.own c.self.inside.issued (with_value c.args.key.now c.args.value.now) c.set_value.new.self same ∙ ap (λ (p : Pair). change_own (with_value c.args.key.now c.args.value.now) p) c.self.view_is)
