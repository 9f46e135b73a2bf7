use Rattle.page_frames.proofs.Bytes.{below_zero}
use Rattle.page_frames.proofs.frames.Frames.new.Goals as goal

pub returns : goal.returns
returns c = below_zero c.new.result.items c.new-2.result c.new.ensures.items
