use Rattle.std.proofs.Common.{[]}
use Rattle.blake2b_core.proofs.digest.Goals as goal

pub returns : goal.returns
returns c = c.finish.ensures c.args.bytes.now (c.update.ensures.bytes [] c.new-hasher.ensures.bytes)
