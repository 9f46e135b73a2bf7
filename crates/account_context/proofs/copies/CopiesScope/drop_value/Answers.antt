use Rattle.account_context.specs.Context.{without_value}
use Rattle.account_context.proofs.HalfPairs.{lawful_own}
use Rattle.account_context.proofs.copies.CopiesScope.drop_value.Goals as goal

pub invariant_of-self-2 : goal.invariant_of-self-2
invariant_of-self-2 c =
    lawful_own c.self.inside.base.now.accounts c.self.inside.service c.self.inside.now c.self.inside.saved c.part.new.saved c.in_ok-part.ensures.ok c.self.invariant
    (without_value c.args.key.now) c.drop_value.new.accounts c.drop_value.ensures
