use Rattle.std.proofs.Common.{◌≡◌, arith, length, sym}
use Rattle.std.proofs.lemmas.Bool.Decides.{nat_tests}
use Rattle.paged_memory.proofs.Sight.{bytes_from-empty}
use Rattle.paged_memory.proofs.memory.Memory.copy_out.Goals as goal

pub returns-else-not-is_empty : goal.returns-else-not-is_empty
returns-else-not-is_empty c =
    let none : length c.args.buf.now ≡ 0 = grind (arith, nat_tests) in
    sym (bytes_from-empty c.args.self.now c.args.addr c.args.buf.now none)
