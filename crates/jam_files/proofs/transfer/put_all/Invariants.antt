-- What was written is the bytes' front.
use Rattle.std.proofs.Common.{◌-◌, ◌≤◌, length, take}
use Rattle.std.specs.Io.KnownBytes.{Appends}
use Rattle.jam_files.proofs.transfer.put_all.Given as goal

abbrev pub invariant-writes : goal.invariant-writes
invariant-writes g l = (l.done ≤ length l.bytes) × Appends (g.W.Write.contents l.initial.to) (g.W.Write.contents l.to) (take l.done l.bytes)

abbrev pub decreases-writes : goal.decreases-writes
decreases-writes g l = length l.bytes - l.done
