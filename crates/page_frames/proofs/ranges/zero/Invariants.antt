use Rattle.std.proofs.Common.{◌≡◌, ◌-◌, ◌^◌}
use Rattle.page_frames.specs.PageBytes.{zeroed}
use Rattle.page_frames.specs.FrameTable.{bytes_below, IsSound}
use Rattle.page_frames.proofs.ranges.zero.Given as goal

abbrev pub invariant-pages : goal.invariant-pages
invariant-pages l = record {
  sound : IsSound l.table.items l.frames;
  zero : bytes_below (2 ^ 32) l.table.items l.frames ≡ zeroed (bytes_below (2 ^ 32) l.fn.table.items l.fn.frames) l.first (l.page - l.first);
}
