use Rattle.std.proofs.Common.{ap, ◌∙◌}
use Rattle.jam_accounts.specs.Accounts.{Account}
use Rattle.account_context.specs.Context.{Pair, change_own}
use Rattle.account_overlay.proofs.Overlaid.{own_changed}
use Rattle.account_overlay.proofs.overlay.OverlayScope.set_code.Goals as goal

pub returns-clause-ok : goal.returns-clause-ok
returns-clause-ok c = own_changed c.self.inside.service c.self.inside.others c.self.inside.own c.self.inside.issued (λ (account : Account). record account { code_hash = c.args.code_hash.now; min_accumulate = c.args.min_accumulate; min_transfer = c.args.min_transfer }) c.set_code.new.self c.set_code.ensures ∙ ap (λ (p : Pair). change_own (λ (account : Account). record account { code_hash = c.args.code_hash.now; min_accumulate = c.args.min_accumulate; min_transfer = c.args.min_transfer }) p) c.self.view_is
