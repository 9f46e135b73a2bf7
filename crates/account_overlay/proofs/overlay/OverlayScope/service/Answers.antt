use Rattle.std.proofs.Common.{subst}
use Rattle.account_context.specs.Context.{IsLawful}
use Rattle.account_overlay.proofs.Overlaid.{lawful}
use Rattle.account_overlay.proofs.overlay.OverlayScope.service.Goals as goal

pub returns-clause-lawful : goal.returns-clause-lawful
returns-clause-lawful c = subst IsLawful c.self.view_is (lawful c.self.inside.service c.self.inside.others c.self.inside.own c.self.inside.issued c.self.invariant)
