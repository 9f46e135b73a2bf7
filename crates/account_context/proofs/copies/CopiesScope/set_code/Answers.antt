use Rattle.account_context.proofs.HalfPairs.{lawful_own}
use Rattle.account_context.proofs.copies.CopiesScope.set_code.Goals as goal

pub invariant_of-self-2 : goal.invariant_of-self-2
invariant_of-self-2 c =
    lawful_own c.self.inside.base.now.accounts c.self.inside.service c.self.inside.now c.self.inside.saved c.part.new.saved c.in_ok-part.ensures.ok c.self.invariant
    (λ account. record account { code_hash = c.args.code_hash.now; min_accumulate = c.args.min_accumulate; min_transfer = c.args.min_transfer }) c.set_code.new.accounts c.set_code.ensures
