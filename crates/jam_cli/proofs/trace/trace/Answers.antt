use Rattle.std.proofs.Common.{ap, ◌∙◌}
use Rattle.trace_text.specs.Transcript.{text_of}
use Rattle.jam_cli.proofs.Traces.{traced}
use Rattle.jam_cli.proofs.trace.trace.Goals as goal

pub returns : goal.returns
returns c =
    traced c.args.program.now c.args.entry c.args.gas.value c.args.args.now.bytes.items c.args.last.value
    c.in_ok-machine.machine c.trace.new.machine c.in_ok-traced.traced.exit c.in_ok-traced.traced.steps.items _ c.in_ok-outcome_lines.field-0.items c.in_ok-outcome.outcome c.in_ok-text.text.items
    c.in_ok-machine.ensures c.in_ok-traced.ensures.exit c.in_ok-traced.ensures.steps c.in_ok-outcome.ensures c.in_ok-outcome_lines.ensures c.in_ok-append.ensures.items
    (c.in_ok-text.ensures ∙ ap text_of c.deref.ensures.value)
