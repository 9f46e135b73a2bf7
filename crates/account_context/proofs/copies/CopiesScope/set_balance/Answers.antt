use Rattle.account_context.proofs.HalfPairs.{lawful_own}
use Rattle.account_context.proofs.copies.CopiesScope.set_balance.Goals as goal

pub invariant_of-self-2 : goal.invariant_of-self-2
invariant_of-self-2 c =
    lawful_own c.self.inside.base.now.accounts c.self.inside.service c.self.inside.now c.self.inside.saved c.part.new.saved c.in_ok-part.ensures.ok c.self.invariant
    (λ account. record account { balance = c.args.balance }) c.set_balance.new.accounts c.set_balance.ensures
