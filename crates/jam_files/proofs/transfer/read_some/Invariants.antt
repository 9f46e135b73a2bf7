-- Nothing was given yet.
use Rattle.std.proofs.Common.{◌≡◌, length}
use Rattle.std.specs.Io.KnownBytes.{Keeps}
use Rattle.jam_files.proofs.transfer.read_some.Given as goal

abbrev pub invariant-tries : goal.invariant-tries
invariant-tries g l = (length l.buf ≡ length l.fn.buf) × Keeps (g.R.Read.remaining l.fn.from) (g.R.Read.remaining l.from)
