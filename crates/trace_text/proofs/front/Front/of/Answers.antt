use Rattle.std.proofs.Common.{◌∙◌, ap, take}
use Rattle.std.proofs.lemmas.List.{take_min}
use Rattle.trace_text.proofs.front.Front.of.Goals as goal

pub returns : goal.returns
returns c = c.in_ok-bytes.ensures.items ∙ ap (λ k. take k c.args.output.now) c.min.ensures ∙ take_min 64 c.args.output.now
