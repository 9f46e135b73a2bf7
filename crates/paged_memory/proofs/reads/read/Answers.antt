use Rattle.std.proofs.Common.{◌∙◌, length}
use Rattle.paged_memory.proofs.Sight.{bytes_read}
use Rattle.paged_memory.proofs.reads.read.Goals as goal

pub returns : goal.returns
returns c = c.read.ensures ∙ bytes_read (length c.args.buf.now) c.args.held.now c.args.addr c.requires.whole c.requires.room
