use Rattle.std.proofs.Common.{ap, sym, ◌∙◌}
use Rattle.jam_accounts.specs.Accounts.{Account}
use Rattle.std.specs.Option.{option_and_then}
use Rattle.std.specs.FinMap as fin
use Rattle.account_context.specs.Context.{Pair, history_in}
use Rattle.account_overlay.proofs.Overlaid.{account_own}
use Rattle.account_overlay.proofs.overlay.OverlayScope.history.Goals as goal

pub returns-then-id-self : goal.returns-then-id-self
returns-then-id-self c = c.history.ensures ∙ sym (ap (option_and_then (λ (account : Account). fin.get account.lookups (c.args.hash.now, c.args.length))) (account_own c.self.inside.service c.self.inside.others c.self.inside.own c.self.inside.issued c.args.id c.if-id-self.true)) ∙ ap (λ (p : Pair). history_in p c.args.id c.args.hash.now c.args.length) c.self.view_is
