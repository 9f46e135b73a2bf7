use Rattle.std.proofs.Common.{IsSome, ap, sym, subst, ◌∙◌}
use Rattle.account_context.specs.Context.{Pair, account_in, remove_account}
use Rattle.account_overlay.proofs.Overlaid.{one_ok, account_other, account_removed, overlaid_removed}
use Rattle.account_overlay.proofs.overlay.OverlayScope.remove_account.Goals as goal

pub remove-requires : goal.remove-requires
remove-requires c = subst IsSome (sym (ap (λ (p : Pair). account_in p c.args.id) c.self.view_is) ∙ account_other c.self.inside.service c.self.inside.others c.self.inside.own c.self.inside.issued c.args.id (λ same. c.requires.other (same ∙ ap (λ (p : Pair). p.service) c.self.view_is))) c.requires.there

pub invariant_of-self : goal.invariant_of-self
invariant_of-self c = overlaid_removed c.self.inside.service c.self.inside.others c.self.inside.own c.self.inside.issued c.self.invariant c.args.id (λ same. c.requires.other (same ∙ ap (λ (p : Pair). p.service) c.self.view_is)) c.remove.result c.remove.new.self c.remove.ensures.ok c.remove.ensures.err

pub returns-clause-ok : goal.returns-clause-ok
returns-clause-ok c =
    one_ok c.remove.result c.remove.ensures.ok (λ same. account_removed c.self.inside.service c.self.inside.others c.self.inside.own c.self.inside.issued c.self.invariant c.args.id (λ same. c.requires.other (same ∙ ap (λ (p : Pair). p.service) c.self.view_is)) c.remove.new.self same ∙ ap (λ (p : Pair). remove_account p c.args.id) c.self.view_is)
