use Rattle.account_context.specs.ContextLaws.{within_dropped}
use Rattle.account_calls.proofs.OwnHistories.{fits_with}
use Rattle.account_calls.proofs.histories.forget_so.Goals as goal

pub set_history-requires : goal.set_history-requires
set_history-requires g c = within_dropped (g.S.Scope.pair c.args.scope.now) c.own_view-own.ensures.there c.own_view-own.ensures.bounded c.args.hash.now c.args.length

pub set_history-requires-in-Kept : goal.set_history-requires-in-Kept
set_history-requires-in-Kept g c = fits_with (g.S.Scope.pair c.args.scope.now) c.args.hash.now c.args.length c.own_view-own.ensures.there c.own_view-own.ensures.bounded c.in-Kept.history c.requires.there
