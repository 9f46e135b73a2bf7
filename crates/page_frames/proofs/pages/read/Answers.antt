use Rattle.std.proofs.Common.{◌≡◌, ◌∙◌, sym, ap, take, drop, length, replicate, rules}
use Rattle.page_frames.proofs.Zeros.{zero_part, no_key, no_frame}
use Rattle.page_frames.proofs.pages.read.Goals as goal

pub returns-in-None-get : goal.returns-in-None-get
returns-in-None-get c =
    let filled : c.fill.new.self ≡ replicate (length c.args.buf.now) 0 = search rules in
    filled ∙ zero_part c.args.place (length c.args.buf.now) c.requires
    ∙ sym (ap (λ b. take (length c.args.buf.now) (drop c.args.place b)) (no_frame c.args.table.now c.args.frames.now c.args.page c.in-Some.key (sym c.in-Some.ensures) (sym c.in-None-get.ensures)))

pub returns-in-None : goal.returns-in-None
returns-in-None c =
    let filled : c.fill-in-None.new.self ≡ replicate (length c.args.buf.now) 0 = search rules in
    filled ∙ zero_part c.args.place (length c.args.buf.now) c.requires
    ∙ sym (ap (λ b. take (length c.args.buf.now) (drop c.args.place b)) (no_key c.args.table.now c.args.frames.now c.args.page (sym c.in-None.ensures)))
