use Rattle.std.proofs.Common.{◌≡◌, ◌∙◌, ap, sym, rules, ◌++◌, replicate}
use Rattle.page_rights.proofs.Spread.{put_behind, joined}
use Rattle.page_rights.specs.RunList.{spread}
use Rattle.page_rights.proofs.parts.append.Goals as goal

pub returns-in-Some-checked_add : goal.returns-in-Some-checked_add
returns-in-Some-checked_add c =
    let same : c.in-Some.last.rights ≡ c.args.rights = search rules in
    joined _ _ c.pop.new.self.items c.in-Some.last c.args.count _ c.args.rights c.in-Some.ensures.items same c.in-Some-checked_add.ensures.1 c.in_ok-push-2.ensures.items

pub returns : goal.returns
returns c =
    put_behind _ _ c.args.count c.args.rights c.in_ok-push-4.ensures.items
    ∙ ap (λ l. l ++ replicate c.args.count c.args.rights) (ap spread (c.in_ok-push-3.ensures.items ∙ sym c.in-Some.ensures.items))
