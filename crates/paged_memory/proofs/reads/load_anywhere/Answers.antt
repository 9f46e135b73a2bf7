use Rattle.std.proofs.Common.{sym, refl, arith}
use Rattle.page_rights.specs.declared.rights.Rights.TheVariants as may
use Rattle.paged_memory.proofs.Writing.{no_wrap}
use Rattle.paged_memory.proofs.reads.load_anywhere.Goals as goal

pub number_at-requires-clause-room : goal.number_at-requires-clause-room
number_at-requires-clause-room c = no_wrap c.args.held.now may.Read c.args.addr c.args.width c.requires.whole refl (omega arith) (sym c.in-None.ensures)
