use Rattle.std.proofs.Common.{◌≡◌, ◌++◌, ◌∙◌, [], List, ap}
use Rattle.circular_buffer.specs.Buffer.{Buffer, buffer, keep_last}
use Rattle.trace_text.specs.declared.last.KeptInstruction.{KeptInstruction}
use Rattle.trace_text.proofs.KeptLast.{last_and_more}
use Rattle.trace_text.proofs.last.LastInstructions.last.Goals as goal

pub returns : goal.returns
returns g c =
    let before : List KeptInstruction = c.args.self.now.before.items in
    let recent : List KeptInstruction = c.args.self.now.recent.items in
    let none : c.in_ok-ring.ring ≡ buffer [] c.args.count = c.in_ok-ring.ensures in
    let one : c.extend_from_slice.new.self ≡ buffer (keep_last c.args.count before) c.args.count =
    c.extend_from_slice.ensures ∙ (λ j. buffer (keep_last (none j).capacity ((none j).items ++ c.deref.ensures.value j)) (none j).capacity) in
    let two : c.extend_from_slice-2.new.self ≡ buffer (keep_last c.args.count (keep_last c.args.count before ++ recent)) c.args.count =
    c.extend_from_slice-2.ensures ∙ (λ j. buffer (keep_last (one j).capacity ((one j).items ++ c.deref-2.ensures.value j)) (one j).capacity) in
    c.in_ok-last.ensures ∙ ap (λ (b : Buffer KeptInstruction). b.items) two ∙ last_and_more c.args.count before recent
