use Rattle.std.proofs.Common.{ap, sym, ◌∙◌}
use Rattle.jam_accounts.specs.Accounts.{Account}
use Rattle.std.specs.Option.{option_and_then}
use Rattle.std.specs.FinMap as fin
use Rattle.account_context.specs.Context.{Pair, preimage_in}
use Rattle.account_overlay.proofs.Overlaid.{account_own}
use Rattle.account_overlay.proofs.overlay.OverlayScope.preimage.Goals as goal

pub returns-then-id-self : goal.returns-then-id-self
returns-then-id-self c = c.preimage.ensures ∙ sym (ap (option_and_then (λ (account : Account). fin.get account.preimages c.args.hash.now)) (account_own c.self.inside.service c.self.inside.others c.self.inside.own c.self.inside.issued c.args.id c.if-id-self.true)) ∙ ap (λ (p : Pair). preimage_in p c.args.id c.args.hash.now) c.self.view_is
