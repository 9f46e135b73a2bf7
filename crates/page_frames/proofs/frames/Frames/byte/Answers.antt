use Rattle.std.proofs.Common.{◌≡◌, ◌^◌, ◌∙◌, sym, ap, arith, rules}
use Rattle.page_frames.specs.PageBytes.{byte_of}
use Rattle.page_frames.specs.FrameTable.{byte_at}
use Rattle.page_frames.proofs.Bytes.{get-below}
use Rattle.page_frames.proofs.frames.Frames.byte.Goals as goal

pub returns : goal.returns
returns c =
    let e : c.deref.result.now ≡ c.self.inside.table.items = search rules in
    c.byte.ensures ∙ ap (λ t. byte_at t c.self.inside.frames c.args.place) e
    ∙ sym (get-below (2 ^ 32) c.self.inside.table.items c.self.inside.frames c.args.place (omega (arith, c.ranges.place.fits)))
    ∙ ap (λ m. byte_of m c.args.place) c.self.view_is
