use Rattle.std.proofs.Common.{◌^◌, arith}
use Rattle.page_frames.specs.FrameTable.{bytes_below}
use Rattle.page_frames.proofs.Bytes.{length-below}
use Rattle.page_frames.proofs.Pieces.{page_zeroed}
use Rattle.page_frames.proofs.ranges.zero.Goals as goal

pub pages-preserved : goal.pages-preserved
pages-preserved c = record {
  sound = c.clear.ensures.sound;
  zero =
      page_zeroed c.pages.table.items c.clear.new.table.items c.pages.frames c.clear.new.frames (bytes_below (2 ^ 32) c.args.table.now.items c.args.frames.now) c.args.first c.pages.page
      (length-below (2 ^ 32) c.args.table.now.items c.args.frames.now) (omega arith) (omega (arith, c.requires.high)) c.pages.invariant.sound c.pages.invariant.zero c.clear.ensures;
}
