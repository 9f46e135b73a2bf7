use Rattle.std.proofs.Common.{rules}
use Rattle.jam_files.proofs.Moves.{appends_piece}
use Rattle.jam_files.proofs.transfer.put_all.Goals as goal

pub writes-preserved : goal.writes-preserved
writes-preserved g c = (search rules, appends_piece _ _ _ _ _ _ c.writes.invariant.1 c.in_ok-taken.ensures.bytes)
