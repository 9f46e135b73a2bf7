use Rattle.std.proofs.Common.{◌≡◌, ◌/◌, ◌^◌, ◌++◌, ◌∙◌, sym, ap, arith, rules}
use Rattle.std.proofs.lemmas.List.{get_or-take}
use Rattle.page_rights.specs.PageRights.{none_granted, right_of_page}
use Rattle.page_rights.specs.RunList.{spread}
use Rattle.page_rights.specs.declared.rights.Rights.TheVariants as may
use Rattle.page_rights.proofs.runs.Runs.rights.Goals as goal

pub returns : goal.returns
returns c =
    let e : c.deref.result.now ≡ c.self.inside.runs.items = search rules in
    c.rights_at.ensures ∙ ap (λ rs. right_of_page (spread rs ++ none_granted) c.args.page) e
    ∙ sym (get_or-take (2 ^ 20) (spread c.self.inside.runs.items ++ none_granted) c.args.page may.No c.requires)
    ∙ ap (λ v. right_of_page v c.args.page) c.self.view_is

pub returns-then-number-span : goal.returns-then-number-span
returns-then-number-span c =
    sym (c.self.invariant.1 (c.args.page / 524288) _ (omega (arith, c.self.invariant.0)) c.args.page (omega (arith, c.if-span-number.true, c.from-number.ensures)) (omega (arith, c.if-span-number.true, c.from-number.ensures)))
    ∙ sym (get_or-take (2 ^ 20) (spread c.self.inside.runs.items ++ none_granted) c.args.page may.No c.requires)
    ∙ ap (λ v. right_of_page v c.args.page) c.self.view_is
