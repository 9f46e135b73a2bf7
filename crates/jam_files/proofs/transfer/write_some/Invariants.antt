-- Nothing was taken yet.
use Rattle.std.specs.Io.KnownBytes.{Keeps}
use Rattle.jam_files.proofs.transfer.write_some.Given as goal

abbrev pub invariant-tries : goal.invariant-tries
invariant-tries g l = Keeps (g.W.Write.contents l.fn.to) (g.W.Write.contents l.to)
