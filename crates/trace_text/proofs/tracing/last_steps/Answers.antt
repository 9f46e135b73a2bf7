use Rattle.std.proofs.Common.{rules, ◌≡◌, List, [], ◌++◌, map, ap, sym, ◌∙◌, arith, None}
use Rattle.circular_buffer.specs.Buffer.{keep_last}
use Rattle.pvm_step.specs.declared.watcher.PaidInstruction.{PaidInstruction}
use Rattle.pvm_step.specs.History.{history}
use Rattle.pvm_step.specs.Machine.{moment}
use Rattle.pvm_step.specs.Watched.{paid_instructions}
use Rattle.trace_text.specs.Traces.{kept_of, kept_line, trace_lines}
use Rattle.blob_decode.specs.Program.{Program}
use Rattle.trace_text.specs.declared.last.KeptInstruction.{KeptInstruction}
use Rattle.trace_text.proofs.KeptLines.{last_lines}
use Rattle.trace_text.proofs.KeptLast.{last_of_last}
use Rattle.trace_text.proofs.tracing.last_steps.Goals as goal

pub returns-clause-steps : goal.returns-clause-steps
unfolding trace_lines
returns-clause-steps g c =
    let p : Program = c.args.machine.now.program in
    let paid : List PaidInstruction = paid_instructions 1 p (history p (moment c.args.machine.now None)) in
    let all : List KeptInstruction = c.run_to_end.new.watcher.before.items ++ c.run_to_end.new.watcher.recent.items in
    let none : c.in_ok-watcher.watcher.before.items ++ c.in_ok-watcher.watcher.recent.items ≡ [] = (λ j. c.in_ok-watcher.ensures.before j ++ c.in_ok-watcher.ensures.recent j) in
    let told = c.in_ok-exit.ensures.told [] (ap (λ (l : List KeptInstruction). keep_last g.row.ROOM l) (sym none), omega (arith, c.in_ok-watcher.ensures.empty), c.in_ok-watcher.ensures.room.0, c.in_ok-watcher.ensures.room.1, omega (arith, c.requires.some, c.requires.most)) in
    let kept : keep_last c.args.last all ≡ keep_last c.args.last (map kept_of paid) =
    sym (last_of_last c.args.last g.row.ROOM all c.requires.most)
    ∙ ap (λ (l : List KeptInstruction). keep_last c.args.last l) (sym told.0) ∙ last_of_last c.args.last g.row.ROOM (map kept_of paid) c.requires.most in
    let program : c.deref.result.now ≡ p = search rules in
    c.in_ok-steps.ensures
    ∙ ap (λ (q : Program). map (kept_line q) c.deref-2.result.now) program
    ∙ ap (λ (l : List KeptInstruction). map (kept_line p) l) (c.deref-2.ensures.value ∙ c.in_ok-kept.ensures ∙ kept)
    ∙ last_lines c.args.last 1 p (history p (moment c.args.machine.now None))
