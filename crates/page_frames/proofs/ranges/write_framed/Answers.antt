use Rattle.std.proofs.Common.{◌≡◌, ◌+◌, ◌-◌, ◌≤◌, ◌/◌, ◌%◌, ◌^◌, arith, subst, length, take, drop}
use Rattle.page_frames.specs.PageBytes.{overwritten}
use Rattle.page_frames.specs.FrameTable.{bytes_below, PageChanged}
use Rattle.page_frames.proofs.Bytes.{length-below}
use Rattle.page_frames.proofs.Pieces.{piece_written}
use Rattle.page_frames.proofs.ranges.write_framed.Goals as goal

pub pieces-preserved : goal.pieces-preserved
pieces-preserved c =
    let within : c.pieces.done + c.min-count.result ≤ length c.args.bytes.now = omega arith in
    let count : c.pieces.done + c.min-count.result - c.pieces.done ≡ c.min-count.result = omega arith in
    let changed =
    subst (λ x. PageChanged c.args.table.now c.pieces.frames c.args.table.now c.write.new.frames ((x + c.pieces.done) / 4096) (λ old. overwritten old ((x + c.pieces.done) % 4096) (take c.min-count.result (drop c.pieces.done c.args.bytes.now)))) c.from.ensures
    (subst (λ k. PageChanged c.args.table.now c.pieces.frames c.args.table.now c.write.new.frames ((c.from.result + c.pieces.done) / 4096) (λ old. overwritten old ((c.from.result + c.pieces.done) % 4096) (take k (drop c.pieces.done c.args.bytes.now)))) count c.write.ensures) in
    record {
      sound = c.write.ensures.sound;
      written =
          piece_written c.args.table.now c.pieces.frames c.write.new.frames (bytes_below (2 ^ 32) c.args.table.now c.args.frames.now) c.args.bytes.now c.args.place c.pieces.done c.min-count.result
          (length-below (2 ^ 32) c.args.table.now c.args.frames.now) c.requires.room within (omega (arith, c.from.ensures)) (omega (arith, c.from.ensures)) c.pieces.invariant.sound c.pieces.invariant.written changed;
      within = within;
    }
