use Rattle.std.proofs.Common.{ap, sym, ◌∙◌}
use Rattle.account_context.specs.Context.{Pair}
use Rattle.account_context.specs.Difference.{delta}
use Rattle.account_overlay.proofs.Overlaid.{own_account_is, added_accounts_are, removed_are}
use Rattle.account_overlay.proofs.overlay.OverlayScope.into_delta.Goals as goal

pub returns : goal.returns
returns c =
    (λ i. record {
      own = (c.in_ok-own.ensures ∙ sym (own_account_is c.self.inside.service c.self.inside.others c.self.inside.own c.self.inside.issued)) i;
      added = (c.in_ok-added.ensures ∙ added_accounts_are c.self.inside.service c.self.inside.others c.self.inside.own c.self.inside.issued c.self.invariant) i;
      removed = (c.in_ok-removed.ensures ∙ removed_are c.self.inside.service c.self.inside.others c.self.inside.own c.self.inside.issued c.self.invariant) i;
      transfers = c.in_ok-transfers.ensures.0 i;
      yielded = c.yielded-yielded.ensures i;
      provided = c.in_ok-transfers.ensures.1 i;
    })
    ∙ ap (λ (p : Pair). delta p) c.self.view_is
