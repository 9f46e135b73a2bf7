use Rattle.std.proofs.Common.{◌≡◌, ◌-◌, ◌≤◌, ◌^◌, length, take}
use Rattle.page_frames.specs.PageBytes.{overwritten}
use Rattle.page_frames.specs.FrameTable.{bytes_below, IsSound}
use Rattle.page_frames.proofs.ranges.write_framed.Given as goal

abbrev pub invariant-pieces : goal.invariant-pieces
invariant-pieces l = record {
  sound : IsSound l.table l.frames;
  written : bytes_below (2 ^ 32) l.table l.frames ≡ overwritten (bytes_below (2 ^ 32) l.table l.fn.frames) l.place (take l.done l.bytes);
  within : l.done ≤ length l.bytes;
}

abbrev pub decreases-pieces : goal.decreases-pieces
decreases-pieces l = length l.bytes - l.done
