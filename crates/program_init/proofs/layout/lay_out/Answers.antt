use Rattle.std.proofs.Common.{sym, subst, length}
use Rattle.std.specs.Prelude.{IsTrue}
use Rattle.paged_memory.specs.PageMap.{Memory, readable}
use Rattle.program_init.proofs.AreaRights.{area_readable}
use Rattle.program_init.proofs.layout.lay_out.Goals as goal

pub fill-requires : goal.fill-requires
fill-requires c =
    subst (λ (m : Memory). IsTrue (readable m c.args.start (length c.args.bytes.now))) (sym c.in_ok-set_pages.ensures.ok)
    (area_readable c.page_laws.ensures.set_rights c.accessible_laws.ensures.all c.args.memory.now c.args.start c.args.size (length c.args.bytes.now) c.args.rights c.requires.some c.requires.from_page c.requires.pages c.requires.high c.requires.room)
