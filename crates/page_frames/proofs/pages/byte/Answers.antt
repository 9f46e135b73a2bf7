use Rattle.std.proofs.Common.{◌∙◌, sym, ap, get_or}
use Rattle.page_frames.proofs.Zeros.{zero_byte, no_key, no_frame}
use Rattle.page_frames.proofs.pages.byte.Goals as goal

pub returns-in-None-get : goal.returns-in-None-get
returns-in-None-get c = sym (ap (λ b. get_or b c.args.place 0) (no_frame c.args.table.now c.args.frames.now c.args.page c.in-Some.key (sym c.in-Some.ensures) (sym c.in-None-get.ensures)) ∙ zero_byte c.args.place)

pub returns-in-None : goal.returns-in-None
returns-in-None c = sym (ap (λ b. get_or b c.args.place 0) (no_key c.args.table.now c.args.frames.now c.args.page (sym c.in-None.ensures)) ∙ zero_byte c.args.place)
