use Rattle.std.proofs.Common.{◌∙◌, ◌/◌, ◌%◌, ◌^◌, ap, arith, take, drop, length}
use Rattle.page_frames.specs.FrameTable.{bytes_below}
use Rattle.page_frames.proofs.Bytes.{part_of_page}
use Rattle.page_frames.proofs.Pieces.{split_place}
use Rattle.page_frames.proofs.ranges.read_in_page.Goals as goal

pub returns : goal.returns
returns c =
    c.read.ensures
    ∙ part_of_page (2 ^ 32) c.args.table.now c.args.frames.now (c.args.place / 4096) (c.args.place % 4096) (length c.args.buf.now) c.requires.room (omega arith) c.requires.sound
    ∙ ap (λ a. take (length c.args.buf.now) (drop a (bytes_below (2 ^ 32) c.args.table.now c.args.frames.now))) (split_place c.args.place)
