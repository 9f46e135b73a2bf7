use Rattle.std.proofs.Common.{replicate, refl}
use Rattle.std.proofs.lemmas.List.{length-replicate}
use Rattle.page_rights.specs.RunList.{rights_of_runs}
use Rattle.page_rights.proofs.Spread.{remade}
use Rattle.page_rights.proofs.changes.with_rights.Goals as goal

pub returns : goal.returns
returns c =
    remade c.args.first c.args.count c.args.runs.now (rights_of_runs c.args.runs.now) c.requires refl c.copy-2.new.out.items c.append.new.runs.items c.copy.new.out.items c.new-out.result.items c.args.runs.now c.args.runs.now (replicate c.args.count c.args.rights)
    c.new-out.ensures.items refl refl (length-replicate c.args.count c.args.rights) c.in_ok-copy.ensures c.in_ok-append.ensures c.in_ok-copy-2.ensures
