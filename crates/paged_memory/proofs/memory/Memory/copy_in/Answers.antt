use Rattle.std.proofs.Common.{◌≡◌, arith, length, sym, subst, true}
use Rattle.std.specs.Prelude.{IsOk}
use Rattle.std.proofs.lemmas.Bool.Decides.{nat_tests}
use Rattle.page_rights.specs.declared.rights.Rights.TheVariants as may
use Rattle.paged_memory.specs.PageMap.{AreMarked, Memory, byte, has, page_of, rights}
use Rattle.paged_memory.proofs.Writing.{put_empty, accessible_each, write_reads}
use Rattle.paged_memory.proofs.memory.Memory.copy_in.Goals as goal

pub returns-then-is_empty-clause-ok : goal.returns-then-is_empty-clause-ok
returns-then-is_empty-clause-ok c =
    let none : length c.args.bytes.now ≡ 0 = grind (arith, nat_tests) in
    sym (put_empty c.args.self.now c.args.addr c.args.bytes.now none)

pub put-requires-clause-there : goal.put-requires-clause-there
put-requires-clause-there c a l h = subst (λ m. has m may.Read a ≡ true) (sym c.self.view_is) (write_reads (rights c.args.self.now (page_of a)) (accessible_each c.args.self.now may.Write c.args.addr (length c.args.bytes.now) c.requires a l h))

pub returns-clause-held : goal.returns-clause-held
returns-clause-held c = subst (λ (m : Memory). AreMarked (byte m) c.args.addr (length c.args.bytes.now) → IsOk c.put.result) c.self.view_is c.put.ensures.held
