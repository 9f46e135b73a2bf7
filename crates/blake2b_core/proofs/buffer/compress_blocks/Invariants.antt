use Rattle.std.proofs.Common.{◌≡◌, ◌/◌}
use Rattle.blake2b_core.specs.Blake2b.{blocks, chained}
use Rattle.blake2b_core.proofs.buffer.compress_blocks.Given as goal

abbrev pub invariant-blocks-2 : goal.invariant-blocks-2
invariant-blocks-2 l = l.chain ≡ chained l.fn.chain (l.fn.count / 128) (blocks l.i l.bytes)
