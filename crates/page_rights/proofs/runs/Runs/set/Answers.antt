use Rattle.std.proofs.Common.{◌≡◌, ◌∙◌, sym, ap, rules, None}
use Rattle.std.specs.List.{position_from}
use Rattle.page_rights.specs.PageRights.{pages_in}
use Rattle.page_rights.specs.RunList.{is_sought}
use Rattle.page_rights.specs.declared.rights.Sought.TheVariants.{Other}
use Rattle.page_rights.proofs.Spread.{part_seen, part_size, granted_already, none_other, is_missing, not_missing}
use Rattle.page_rights.proofs.runs.Runs.set.Goals as goal

pub returns-then-is_none-clause-ok : goal.returns-then-is_none-clause-ok
returns-then-is_none-clause-ok c =
    let e : c.deref.result.now ≡ c.self.inside.runs.items = search rules in
    let none : c.first_sought.result ≡ None = is_missing c.first_sought.result c.is_none.result c.is_none.ensures c.if-is_none.true in
    granted_already c.args.first c.args.count c.args.self.now c.args.rights (part_size c.args.first c.args.count c.self.inside.runs.items c.args.self.now c.requires c.self.view_is)
    (ap (position_from (is_sought (Other c.args.rights)) c.args.first) (sym (part_seen c.args.first c.args.count c.self.inside.runs.items c.args.self.now c.requires c.self.view_is c.deref.result.now e)) ∙ sym c.first_sought.ensures ∙ none)

pub returns-in_err-runs-clause-held : goal.returns-in_err-runs-clause-held
returns-in_err-runs-clause-held c same =
    let e : c.deref.result.now ≡ c.self.inside.runs.items = search rules in
    let none : c.first_sought.result ≡ None =
    c.first_sought.ensures ∙ ap (position_from (is_sought (Other c.args.rights)) c.args.first) (part_seen c.args.first c.args.count c.self.inside.runs.items c.args.self.now c.requires c.self.view_is c.deref.result.now e) ∙ none_other c.args.first c.args.count c.args.self.now c.args.rights same in
    absurd (not_missing c.first_sought.result c.is_none.result c.is_none.ensures c.if-is_none.false none)
