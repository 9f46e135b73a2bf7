use Rattle.std.proofs.Common.{◌+◌, ◌≤◌, ◌^◌, arith, length}
use Rattle.page_frames.specs.FrameTable.{bytes_below}
use Rattle.page_frames.proofs.Bytes.{length-below}
use Rattle.page_frames.proofs.Pieces.{piece_seen, piece_read}
use Rattle.page_frames.proofs.ranges.read.Goals as goal

pub pieces-preserved : goal.pieces-preserved
pieces-preserved c =
    let memory = bytes_below (2 ^ 32) c.args.table.now c.args.frames.now in
    let within : c.pieces.done + c.min-count.result ≤ length c.args.buf.now = omega arith in
    let here = piece_seen c.args.table.now c.args.frames.now c.from.result c.args.place c.pieces.done c.min-count.result _ c.pieces.buf c.read.new.buf c.requires.sound c.from.ensures (omega (arith, c.pieces.auto.buf)) (omega arith) (omega arith) (omega (arith, c.from.ensures)) c.read.ensures in
    record {
      read =
          piece_read memory c.args.place c.pieces.done c.min-count.result _ c.args.buf.now c.pieces.buf c.read.new.buf c.pieces.invariant.read c.pieces.auto.buf within (omega arith)
          (omega (arith, length-below (2 ^ 32) c.args.table.now c.args.frames.now, c.requires.room)) here;
      within = within;
    }
