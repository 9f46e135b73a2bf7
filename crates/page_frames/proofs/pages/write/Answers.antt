use Rattle.std.proofs.Common.{sym}
use Rattle.page_frames.proofs.Writing.{frame_written}
use Rattle.page_frames.proofs.pages.write.Goals as goal

pub returns-in-Some : goal.returns-in-Some
returns-in-Some c = frame_written c.args.table.now c.args.frames.now c.write_frame.new.frames c.args.page c.in-Some.key c.args.place c.args.bytes.now c.requires.sound (sym c.in-Some.ensures) c.requires.fits c.write_frame.ensures.at c.write_frame.ensures.others
