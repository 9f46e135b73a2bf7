use Rattle.std.proofs.Common.{◌≡◌, ◌∙◌, sym, ap, rules, None}
use Rattle.std.specs.List.{position_from}
use Rattle.page_rights.specs.RunList.{is_sought}
use Rattle.page_rights.specs.declared.rights.Rights.TheVariants as may
use Rattle.page_rights.specs.declared.rights.Sought.TheVariants.{Below}
use Rattle.page_rights.proofs.Spread.{part_seen, lifted_already, is_missing, not_missing}
use Rattle.page_rights.proofs.runs.Runs.lift.Goals as goal

pub returns-then-is_none-clause-ok : goal.returns-then-is_none-clause-ok
returns-then-is_none-clause-ok c =
    let e : c.deref.result.now ≡ c.self.inside.runs.items = search rules in
    let none : c.first_sought.result ≡ None = is_missing c.first_sought.result c.is_none.result c.is_none.ensures c.if-is_none.true in
    lifted_already c.args.first c.args.count c.args.self.now
    (ap (position_from (is_sought (Below may.Read)) c.args.first) (sym (part_seen c.args.first c.args.count c.self.inside.runs.items c.args.self.now c.requires c.self.view_is c.deref.result.now e)) ∙ sym c.first_sought.ensures ∙ none)

pub returns-in_err-runs-clause-held : goal.returns-in_err-runs-clause-held
returns-in_err-runs-clause-held c same =
    let e : c.deref.result.now ≡ c.self.inside.runs.items = search rules in
    let none : c.first_sought.result ≡ None =
    c.first_sought.ensures ∙ ap (position_from (is_sought (Below may.Read)) c.args.first) (part_seen c.args.first c.args.count c.self.inside.runs.items c.args.self.now c.requires c.self.view_is c.deref.result.now e) ∙ same in
    absurd (not_missing c.first_sought.result c.is_none.result c.is_none.ensures c.if-is_none.false none)
