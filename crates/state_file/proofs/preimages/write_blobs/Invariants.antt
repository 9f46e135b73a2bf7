use Rattle.state_file.proofs.Maps.{Written}
use Rattle.state_file.proofs.preimages.write_blobs.Given as goal

abbrev pub invariant-loop-hash : goal.invariant-loop-hash
invariant-loop-hash l = Written l.preimages l._hash-iterator l.fn.out.items l.out.items
