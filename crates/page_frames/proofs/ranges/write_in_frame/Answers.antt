use Rattle.std.proofs.Common.{◌∙◌, ◌^◌, ◌/◌, ◌%◌, ap, arith}
use Rattle.page_frames.specs.PageBytes.{overwritten}
use Rattle.page_frames.specs.FrameTable.{bytes_below}
use Rattle.page_frames.proofs.Bytes.{below_written}
use Rattle.page_frames.proofs.Pieces.{split_place}
use Rattle.page_frames.proofs.ranges.write_in_frame.Goals as goal

pub returns-clause-done : goal.returns-clause-done
returns-clause-done c = λ _.
    below_written (2 ^ 32) c.args.table.now c.args.frames.now c.args.table.now c.write.new.frames (c.args.place / 4096) (c.args.place % 4096) c.args.bytes.now c.requires.room (omega arith) c.requires.sound c.write.ensures
    ∙ ap (λ a. overwritten (bytes_below (2 ^ 32) c.args.table.now c.args.frames.now) a c.args.bytes.now) (split_place c.args.place)
