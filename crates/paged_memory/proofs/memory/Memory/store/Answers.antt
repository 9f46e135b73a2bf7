use Rattle.std.proofs.Common.{◌≡◌, subst, Some, None, Err}
use Rattle.std.specs.Prelude.{◌↔◌, IsOk}
use Rattle.page_rights.specs.declared.rights.Rights.TheVariants as may
use Rattle.paged_memory.specs.declared.access.StoreRefusal.TheVariants.{Access}
use Rattle.paged_memory.specs.PageMap.{AreMarked, Memory, byte, refusal}
use Rattle.paged_memory.proofs.memory.Memory.store.Goals as goal

pub returns-clause-refused : goal.returns-clause-refused
returns-clause-refused c access = subst (λ (m : Memory). (c.store.result ≡ Err (Access access)) ↔ (refusal m may.Write c.args.addr c.args.width ≡ Some access)) c.self.view_is (c.store.ensures.refused access)

pub returns-clause-held : goal.returns-clause-held
returns-clause-held c = subst (λ (m : Memory). AreMarked (byte m) c.args.addr c.args.width → refusal m may.Write c.args.addr c.args.width ≡ None → IsOk c.store.result) c.self.view_is c.store.ensures.held
