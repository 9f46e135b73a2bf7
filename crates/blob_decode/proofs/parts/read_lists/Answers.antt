use Rattle.std.proofs.Common.{arith}
use Rattle.blob_decode.proofs.KeptLaws.{AreParts-read}
use Rattle.blob_decode.proofs.parts.read_lists.Goals as goal

pub returns-clause-keeps : goal.returns-clause-keeps
returns-clause-keeps c =
    AreParts-read c.args.count c.args.width c.args.size c.in_ok-table.table.now c.in_ok-code.code.now c.in_ok-mask.mask.now
    (omega arith) c.requires c.in_ok-table.ensures.whole c.in_ok-code.ensures.ok.0 c.in_ok-mask.ensures.ok.0
