-- What the code of `trace` prints is the command's text.
use Rattle.std.proofs.Common.{◌≡◌, ℕ, List, ◌++◌, ap, ◌∙◌, Some, None}
use Rattle.blob_decode.specs.Program as blob
use Rattle.pvm_step.specs.declared.exit.Exit.{Exit}
use Rattle.pvm_step.specs.History.{Moment, answer}
use Rattle.pvm_step.specs.Machine.{Machine, moment}
use Rattle.program_init.specs.Standard.{Standard}
use Rattle.program_init.specs.FirstState.{first_machine}
use Rattle.pvm_invoke.specs.Outcome.{Outcome}
use Rattle.trace_text.specs.declared.line.Line.{Line}
use Rattle.trace_text.specs.Transcript.{text_of, block}
use Rattle.trace_text.specs.Traces.{trace_lines}
use Rattle.jam_cli.specs.Command.{made, prints, outcome_by, run_lines, trace_work}

pub traced : (program : Standard blob.Program) (entry gas : ℕ) (args : List ℕ) (last : ℕ) (first end : Machine) (exit : Exit) (steps lines ending : List Line) (outcome : Outcome) (text : List ℕ)
    → first ≡ first_machine program entry gas args
    → moment end (Some exit) ≡ answer first.program (moment first None)
    → steps ≡ trace_lines last first.program (moment first None)
    → outcome ≡ outcome_by gas (moment end (Some exit)) exit
    → ending ≡ block outcome → lines ≡ steps ++ ending → text ≡ text_of lines
    → made (record { printed = text; entry = None }) ≡ trace_work program entry gas args last
traced program entry gas args last first end exit steps lines ending outcome text is ended stepped came blocked joined spelled =
    ap (λ (t : List ℕ). made (record { printed = t; entry = None })) spelled
    ∙ ap (λ (ls : List Line). prints ls) (joined ∙ (λ i. stepped i ++ (blocked ∙ ap block came) i))
    ∙ ap (λ (m : Moment). prints (trace_lines last first.program (moment first None) ++ run_lines gas m m.exit)) ended
    ∙ ap (λ (f : Machine). prints (trace_lines last f.program (moment f None) ++ run_lines gas (answer f.program (moment f None)) (answer f.program (moment f None)).exit)) is
