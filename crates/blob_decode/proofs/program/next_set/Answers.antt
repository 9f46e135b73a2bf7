use Rattle.std.proofs.Common.{refl, arith}
use Rattle.blob_decode.proofs.Windows.{FirstSet-ahead}
use Rattle.blob_decode.proofs.program.next_set.Goals as goal

pub returns-clause-first : goal.returns-clause-first
returns-clause-first c = (FirstSet-ahead c.args.bits _ (omega arith) refl).2

pub returns-clause-some : goal.returns-clause-some
returns-clause-some c = (FirstSet-ahead c.args.bits _ (omega arith) refl).0

pub returns-clause-most : goal.returns-clause-most
returns-clause-most c = (FirstSet-ahead c.args.bits _ (omega arith) refl).1
