use Rattle.std.proofs.Common.{◌++◌, ◌∙◌, ap, map, refl}
use Rattle.std.proofs.lemmas.List.{length-map}
use Rattle.page_rights.specs.PageRights.{lifted, pages_in}
use Rattle.page_rights.specs.RunList.{spread, rights_of_runs}
use Rattle.page_rights.proofs.Spread.{remade, part_seen, part_size}
use Rattle.page_rights.proofs.changes.with_lifted.Goals as goal

pub returns : goal.returns
returns c =
    let runs = c.args.runs.now in
    let pages = rights_of_runs runs in
    let range = map lifted (pages_in pages c.args.first c.args.count) in
    remade c.args.first c.args.count runs pages c.requires refl c.copy-3.new.out.items c.copy-2.new.out.items c.copy.new.out.items c.new-out.result.items runs runs range
    c.new-out.ensures.items refl refl (length-map _ _ ∙ part_size c.args.first c.args.count runs pages c.requires refl) c.in_ok-copy.ensures
    (c.in_ok-copy-2.ensures ∙ ap (λ l. spread c.copy.new.out.items ++ map lifted l) (part_seen c.args.first c.args.count runs pages c.requires refl runs refl)) c.in_ok-copy-3.ensures
