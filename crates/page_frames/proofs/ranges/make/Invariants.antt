use Rattle.std.proofs.Common.{◌-◌}
use Rattle.page_frames.specs.FrameTable.{SamePages, HaveFrames}
use Rattle.page_frames.proofs.ranges.make.Given as goal

abbrev pub invariant-pages : goal.invariant-pages
invariant-pages l = record {
  same : SamePages l.fn.table.items l.fn.frames l.table.items l.frames;
  made : HaveFrames l.table.items l.first (l.page - l.first);
}
