use Rattle.blake2b_core.proofs.Standing.{stands_held}
use Rattle.blake2b_core.proofs.buffer.hold.Goals as goal

pub returns : goal.returns
returns c = λ chain all s.
    stands_held chain c.args.block.now c.put.new.block c.args.bytes.now all c.args.count s c.requires.room
    (rw c.waiting.ensures.count at c.put.ensures)
