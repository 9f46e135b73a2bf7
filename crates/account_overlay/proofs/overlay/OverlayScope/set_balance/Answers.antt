use Rattle.std.proofs.Common.{ap, ◌∙◌}
use Rattle.jam_accounts.specs.Accounts.{Account}
use Rattle.account_context.specs.Context.{Pair, change_own}
use Rattle.account_overlay.proofs.Overlaid.{own_changed}
use Rattle.account_overlay.proofs.overlay.OverlayScope.set_balance.Goals as goal

pub returns-clause-ok : goal.returns-clause-ok
returns-clause-ok c = own_changed c.self.inside.service c.self.inside.others c.self.inside.own c.self.inside.issued (λ (account : Account). record account { balance = c.args.balance }) c.set_balance.new.self c.set_balance.ensures ∙ ap (λ (p : Pair). change_own (λ (account : Account). record account { balance = c.args.balance }) p) c.self.view_is
