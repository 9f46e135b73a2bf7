use Rattle.std.proofs.Common.{◌++◌, ◌∙◌, ap, string_bytes, Vec, ℕ}
use Rattle.std.specs.declared.alloc.Global.{Global}
use Rattle.trace_text.specs.Transcript.{line_bytes}
use Rattle.trace_text.proofs.Lines.{text_more, text_all}
use Rattle.trace_text.proofs.spelling.spell_lines.Goals as goal

pub loop-line-preserved : goal.loop-line-preserved
loop-line-preserved c =
    text_more (string_bytes c.loop-line.text) (string_bytes c.push_line.new.text) c.loop-line.line-index c.args.lines.now c.line-item.result c.loop-line-test.true c.loop-line.invariant
    (c.in_ok-push_line.ensures ∙ ap (λ line. string_bytes c.loop-line.text ++ line_bytes line) c.line-item.is)

pub returns : goal.returns
returns c = ap (λ (v : Vec ℕ Global). v.items) c.into_bytes.ensures.value ∙ text_all (string_bytes c.loop-line.text) c.loop-line.line-index c.args.lines.now c.loop-line-test.false c.loop-line.invariant
