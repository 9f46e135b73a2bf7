use Rattle.std.proofs.Common.{◌∙◌, ap, sym, arith}
use Rattle.page_rights.specs.declared.rights.Rights.{Rights}
use Rattle.paged_memory.specs.PageMap.{reaches}
use Rattle.paged_memory.specs.Seen.{seen}
use Rattle.paged_memory.proofs.Writing.{allowed}
use Rattle.paged_memory.proofs.reads.is_within.Goals as goal

pub returns-then-addr-from-le-PAGE-clause-allowed :
    goal.returns-then-addr-from-le-PAGE-clause-allowed
returns-then-addr-from-le-PAGE-clause-allowed c = λ has.
    allowed (seen c.args.held.now) c.args.need c.args.addr c.args.width (ap (λ (r : Rights). reaches r c.args.need) (sym c.rights_of.ensures) ∙ sym c.reaches.ensures ∙ has) (omega arith)
    (omega (arith, c.if-addr-from-le-PAGE.true, c.from.ensures))
