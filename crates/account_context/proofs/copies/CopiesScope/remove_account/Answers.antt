use Rattle.std.proofs.Common.{ap, ◌∙◌}
use Rattle.account_context.specs.Context.{Pair}
use Rattle.account_context.proofs.HalfPairs.{lawful_removed}
use Rattle.account_context.proofs.copies.CopiesScope.remove_account.Goals as goal

pub invariant_of-self-2 : goal.invariant_of-self-2
invariant_of-self-2 c =
    lawful_removed c.self.inside.base.now.accounts c.self.inside.service c.self.inside.now c.self.inside.saved c.part.new.saved c.in_ok-part.ensures.ok c.self.invariant
    c.args.id c.remove.new.self (λ same. c.requires.other (same ∙ ap (λ (p : Pair). p.service) c.self.view_is)) c.remove.ensures.after
