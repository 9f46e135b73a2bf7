use Rattle.std.proofs.Common.{arith}
use Rattle.blake2b_core.proofs.BlockWords.{words_read}
use Rattle.blake2b_core.proofs.compress.block_words.Goals as goal

pub returns : goal.returns
returns c = words_read 16 c.args.block.now c.read_u64_into.new.dst (omega arith) (omega arith) c.read_u64_into.ensures
