use Rattle.std.proofs.Common.{◌≡◌, ◌∙◌, ap, rules}
use Rattle.std.specs.List.{position_from}
use Rattle.page_rights.specs.RunList.{is_sought}
use Rattle.page_rights.specs.declared.rights.Sought.TheVariants.{Below}
use Rattle.page_rights.proofs.Spread.{part_seen}
use Rattle.page_rights.proofs.runs.Runs.first_below.Goals as goal

pub returns : goal.returns
returns c =
    let e : c.deref.result.now ≡ c.self.inside.runs.items = search rules in
    c.first_sought.ensures ∙ ap (position_from (is_sought (Below c.args.least)) c.args.first) (part_seen c.args.first c.args.count c.self.inside.runs.items c.args.self.now c.requires c.self.view_is c.deref.result.now e)
