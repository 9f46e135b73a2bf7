use Rattle.account_context.specs.NewIdLaws.{free_id-in_ring}
use Rattle.account_context.proofs.HalfPairs.{lawful_added}
use Rattle.account_context.proofs.copies.CopiesScope.add_account.Goals as goal

pub invariant_of-self-2 : goal.invariant_of-self-2
invariant_of-self-2 c =
    lawful_added c.self.inside.base.now.accounts c.self.inside.service c.self.inside.now c.self.inside.saved c.part.new.saved c.in_ok-part.ensures.ok c.self.invariant
    c.args.id c.args.account c.put.new.self c.bump-self-inside.result c.in_ok-put.ensures.ok c.bump-self-inside.ensures.value

pub bump-self-inside-requires : goal.bump-self-inside-requires
bump-self-inside-requires c = free_id-in_ring c.args.self.now c.args.id c.requires
