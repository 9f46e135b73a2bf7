use Rattle.std.proofs.Common.{◌≡◌, ◌+◌, ◌-◌, ◌/◌, ◌<◌, ◌^◌, ◌∙◌, sym, ap, arith, length, rules}
use Rattle.std.proofs.lemmas.Bool.Decides.{nat_tests}
use Rattle.page_frames.specs.PageBytes.{overwritten}
use Rattle.page_frames.specs.FrameTable.{bytes_below}
use Rattle.page_frames.proofs.Bytes.{below_same}
use Rattle.page_frames.proofs.Pieces.{marked_range}
use Rattle.page_frames.proofs.ranges.write.Goals as goal

pub returns-in_err-make-clause-err : goal.returns-in_err-make-clause-err
returns-in_err-make-clause-err c =
    let same : bytes_below (2 ^ 32) c.make.new.table.items c.make.new.frames ≡ bytes_below (2 ^ 32) c.args.table.now.items c.args.frames.now =
    below_same (2 ^ 32) c.args.table.now.items c.args.frames.now c.make.new.table.items c.make.new.frames c.make.ensures.same in
    search (rules, same)

pub returns-in_err-make-clause-held : goal.returns-in_err-make-clause-held
returns-in_err-make-clause-held c m =
    let some : 0 < length c.args.bytes.now = grind (arith, nat_tests) in
    let last = ap (λ x. (x + (length c.args.bytes.now - 1)) / 4096) c.from.ensures in
    let ok = c.in_err-make.ensures.held (marked_range c.args.table.now.items c.args.frames.now c.args.place (length c.args.bytes.now) _ some c.requires.room last m) in
    absurd (cc)

pub returns-clause-ok : goal.returns-clause-ok
returns-clause-ok c =
    let e : c.deref.result.now ≡ c.make.new.table.items = search rules in
    sym (ap (λ t. bytes_below (2 ^ 32) t c.write_framed.new.frames) e) ∙ c.write_framed.ensures.after
    ∙ ap (λ t. overwritten (bytes_below (2 ^ 32) t c.make.new.frames) c.args.place c.args.bytes.now) e
    ∙ ap (λ m. overwritten m c.args.place c.args.bytes.now) (below_same (2 ^ 32) c.args.table.now.items c.args.frames.now c.make.new.table.items c.make.new.frames c.make.ensures.same)
