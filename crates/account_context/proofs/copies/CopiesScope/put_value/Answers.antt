use Rattle.std.proofs.Common.{sym, subst}
use Rattle.account_context.specs.Held.{pair_of}
use Rattle.account_context.specs.Context.{Pair, IsOwnWithinBound, put_value, with_value}
use Rattle.account_context.proofs.HalfPairs.{room_for, lawful_own_by}
use Rattle.account_context.proofs.copies.CopiesScope.put_value.Goals as goal

pub invariant_of-self-2 : goal.invariant_of-self-2
invariant_of-self-2 c =
    lawful_own_by c.self.inside.base.now.accounts c.self.inside.service c.self.inside.now c.self.inside.saved c.part.new.saved c.in_ok-part.ensures.ok c.self.invariant
    c.put_value.result (with_value c.args.key.now c.args.value.now) c.put_value.new.accounts c.put_value.ensures.ok c.put_value.ensures.err

pub put_value-requires-clause-room : goal.put_value-requires-clause-room
put_value-requires-clause-room c =
    let pair = pair_of c.self.inside.base.now.accounts c.self.inside.service c.self.inside.now c.self.inside.saved in
    room_for pair (with_value c.args.key.now c.args.value.now) c.self.invariant.now.own (subst (λ (p : Pair). IsOwnWithinBound (put_value p c.args.key.now c.args.value.now)) (sym c.self.view_is) c.requires)
