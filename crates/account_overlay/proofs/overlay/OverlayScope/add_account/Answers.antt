use Rattle.std.proofs.Common.{◌≡◌, Some, ap, sym, subst, ◌∙◌}
use Rattle.account_context.specs.NewIds.{IsInRing}
use Rattle.account_context.specs.NewIdLaws.{free_id-in_ring}
use Rattle.account_context.specs.FreeIds.{free_id}
use Rattle.account_context.specs.Context.{Pair, add_account}
use Rattle.account_overlay.proofs.Overlaid.{free_there, few_there, account_added, overlaid_added}
use Rattle.account_overlay.proofs.overlay.OverlayScope.add_account.Goals as goal

pub add-requires-clause-free : goal.add-requires-clause-free
add-requires-clause-free c = free_there c.self.inside.service c.self.inside.others c.self.inside.own c.self.inside.issued c.self.invariant c.args.id (subst (λ (p : Pair). free_id p ≡ Some c.args.id) (sym c.self.view_is) c.requires)

pub add-requires-clause-few : goal.add-requires-clause-few
add-requires-clause-few c = few_there c.self.inside.service c.self.inside.others c.self.inside.own c.self.inside.issued c.self.invariant c.args.id (subst (λ (p : Pair). free_id p ≡ Some c.args.id) (sym c.self.view_is) c.requires)

pub bump-requires : goal.bump-requires
bump-requires c = free_id-in_ring c.args.self.now c.args.id c.requires

pub invariant_of-self-2 : goal.invariant_of-self-2
invariant_of-self-2 c =
    overlaid_added c.self.inside.service c.self.inside.others c.self.inside.own c.self.inside.issued c.self.invariant c.args.id (subst (λ (p : Pair). free_id p ≡ Some c.args.id) (sym c.self.view_is) c.requires) c.args.account c.add.new.self c.in_ok-add.ensures.ok c.set_candidate.new.self
    (c.set_candidate.ensures ∙ ap (λ n. record c.self.inside.issued { now = record c.self.inside.issued.now { candidate = n } }) c.bump.ensures.value) (subst IsInRing c.bump.ensures.value c.bump.ensures.ring)

pub returns-clause-ok : goal.returns-clause-ok
returns-clause-ok c =
    account_added c.self.inside.service c.self.inside.others c.self.inside.own c.self.inside.issued c.self.invariant c.args.id (subst (λ (p : Pair). free_id p ≡ Some c.args.id) (sym c.self.view_is) c.requires) c.args.account c.add.new.self c.in_ok-add.ensures.ok c.set_candidate.new.self
    (c.set_candidate.ensures ∙ ap (λ n. record c.self.inside.issued { now = record c.self.inside.issued.now { candidate = n } }) c.bump.ensures.value)
    ∙ ap (λ (p : Pair). add_account p c.args.id c.args.account) c.self.view_is
