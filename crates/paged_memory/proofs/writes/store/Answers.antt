use Rattle.std.proofs.Common.{◌≡◌, subst, Some, None, Err}
use Rattle.std.specs.Prelude.{◌↔◌, IsOk}
use Rattle.page_rights.specs.declared.rights.Rights.TheVariants as may
use Rattle.paged_memory.specs.declared.pages.Pages.{Pages}
use Rattle.paged_memory.specs.declared.access.StoreRefusal.TheVariants.{Access}
use Rattle.paged_memory.specs.PageMap.{AreMarked, byte, refusal}
use Rattle.paged_memory.specs.Seen.{seen}
use Rattle.paged_memory.proofs.writes.store.Goals as goal

pub returns-clause-refused : goal.returns-clause-refused
returns-clause-refused c access =
    subst (λ (p : Pages). (c.store_anywhere.result ≡ Err (Access access)) ↔ (refusal (seen p) may.Write c.args.addr c.args.width ≡ Some access)) (c.put_at_once.ensures.same c.if-put_at_once.false) (c.store_anywhere.ensures.refused access)

pub returns-clause-held : goal.returns-clause-held
returns-clause-held c =
    subst (λ (p : Pages). AreMarked (byte (seen p)) c.args.addr c.args.width → refusal (seen p) may.Write c.args.addr c.args.width ≡ None → IsOk c.store_anywhere.result) (c.put_at_once.ensures.same c.if-put_at_once.false) c.store_anywhere.ensures.held
