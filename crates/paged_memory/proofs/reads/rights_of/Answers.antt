use Rattle.std.proofs.Common.{◌∙◌, sym, arith}
use Rattle.paged_memory.proofs.Sight.{rights_seen, no_rights_past}
use Rattle.paged_memory.proofs.reads.rights_of.Goals as goal

pub returns-then-page-lt-PAGES : goal.returns-then-page-lt-PAGES
returns-then-page-lt-PAGES c = c.rights.ensures ∙ sym (rights_seen c.args.held.now.rights c.args.held.now.bytes c.args.page)

pub returns-else-page-lt-PAGES : goal.returns-else-page-lt-PAGES
returns-else-page-lt-PAGES c = no_rights_past c.args.held.now c.args.page c.requires (omega (arith, c.if-page-lt-PAGES.false))
