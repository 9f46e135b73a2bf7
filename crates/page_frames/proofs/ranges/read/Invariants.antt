use Rattle.std.proofs.Common.{◌≡◌, ◌-◌, ◌≤◌, ◌^◌, ◌++◌, length, take, drop}
use Rattle.page_frames.specs.FrameTable.{bytes_below}
use Rattle.page_frames.proofs.ranges.read.Given as goal

abbrev pub invariant-pieces : goal.invariant-pieces
invariant-pieces l = record {
  read : l.buf ≡ take l.done (drop l.place (bytes_below (2 ^ 32) l.table l.frames)) ++ drop l.done l.initial.buf;
  within : l.done ≤ length l.initial.buf;
}

abbrev pub decreases-pieces : goal.decreases-pieces
decreases-pieces l = length l.initial.buf - l.done
