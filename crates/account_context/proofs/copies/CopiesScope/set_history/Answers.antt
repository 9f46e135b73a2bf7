use Rattle.std.proofs.Common.{sym, subst}
use Rattle.account_context.specs.Held.{pair_of}
use Rattle.account_context.specs.Context.{Pair, IsOwnWithinBound, set_history, with_history}
use Rattle.account_context.proofs.HalfPairs.{room_for, lawful_own_by}
use Rattle.account_context.proofs.copies.CopiesScope.set_history.Goals as goal

pub invariant_of-self-2 : goal.invariant_of-self-2
invariant_of-self-2 c =
    lawful_own_by c.self.inside.base.now.accounts c.self.inside.service c.self.inside.now c.self.inside.saved c.part.new.saved c.in_ok-part.ensures.ok c.self.invariant
    c.set_history.result (with_history c.args.hash.now c.args.length c.args.history) c.set_history.new.accounts c.set_history.ensures.ok c.set_history.ensures.err

pub set_history-requires-clause-room : goal.set_history-requires-clause-room
set_history-requires-clause-room c =
    let pair = pair_of c.self.inside.base.now.accounts c.self.inside.service c.self.inside.now c.self.inside.saved in
    room_for pair (with_history c.args.hash.now c.args.length c.args.history) c.self.invariant.now.own (subst (λ (p : Pair). IsOwnWithinBound (set_history p c.args.hash.now c.args.length c.args.history)) (sym c.self.view_is) c.requires)
