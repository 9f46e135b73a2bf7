use Rattle.std.proofs.Common.{◌≡◌, ◌<◌, ap, sym, subst, ◌∙◌, arith}
use Rattle.account_context.specs.Context.{Pair}
use Rattle.account_context.specs.NewIds.{ring_size}
use Rattle.account_context.specs.FreeIds.{taken_count, max_services, first_free, free_id}
use Rattle.account_context.specs.NewIdLaws.{free_id-none, free_id-few}
use Rattle.account_overlay.specs.Pairs.{pair_with}
use Rattle.account_overlay.proofs.Overlaid.{taken_is, taken_as}
use Rattle.account_overlay.proofs.overlay.OverlayScope.free_id.Goals as goal

pub returns-then-taken_count-ge-MAX_SERVICES : goal.returns-then-taken_count-ge-MAX_SERVICES
returns-then-taken_count-ge-MAX_SERVICES c =
    let taken : c.taken_count.result ≡ taken_count c.args.self.now = c.taken_count.ensures ∙ taken_is c.self.inside.service c.self.inside.others c.self.inside.own c.self.inside.issued c.self.invariant ∙ ap (λ (p : Pair). taken_count p) c.self.view_is in
    sym (free_id-none c.args.self.now (omega (arith, taken, c.if-taken_count-ge-MAX_SERVICES.true)))

pub returns : goal.returns
returns c =
    let taken : c.taken_count.result ≡ taken_count c.args.self.now = c.taken_count.ensures ∙ taken_is c.self.inside.service c.self.inside.others c.self.inside.own c.self.inside.issued c.self.invariant ∙ ap (λ (p : Pair). taken_count p) c.self.view_is in
    let few : taken_count c.args.self.now < max_services = omega (arith, taken, c.if-taken_count-ge-MAX_SERVICES.false) in
    let pair = pair_with c.self.inside.service c.self.inside.others c.self.inside.own c.self.inside.issued in
    c.first_free.ensures
    ∙ (λ i. first_free (λ id. taken_as c.self.inside.service c.self.inside.others c.self.inside.own c.self.inside.issued c.self.invariant id i) (c.candidate.ensures i) ring_size 0)
    ∙ sym (free_id-few pair (subst (λ (p : Pair). taken_count p < max_services) (sym c.self.view_is) few))
    ∙ ap (λ (p : Pair). free_id p) c.self.view_is
