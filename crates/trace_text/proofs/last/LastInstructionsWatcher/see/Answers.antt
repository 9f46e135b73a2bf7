use Rattle.std.proofs.Common.{ℕ, ◌≡◌, ◌+◌, ◌<◌, ◌≤◌, ◌∷◌, ◌++◌, ◌∙◌, [], List, length, map, append_assoc, append-nil, ap, sym, subst, arith}
use Rattle.std.specs.Prelude.{vec_len, vec_capacity}
use Rattle.circular_buffer.specs.Buffer.{keep_last}
use Rattle.pvm_step.specs.declared.watcher.PaidInstruction.{PaidInstruction}
use Rattle.trace_text.specs.declared.last.KeptInstruction.{KeptInstruction}
use Rattle.trace_text.specs.Traces.{kept_of}
use Rattle.trace_text.proofs.KeptLines.{kept_more}
use Rattle.trace_text.specs.declared.last.LastInstructions.{LastInstructions}
use Rattle.trace_text.proofs.KeptLast.{alike_and_next, last_list, last_few, if_ok}
use Rattle.trace_text.proofs.last.LastInstructionsWatcher.see.Goals.{then-len, else-len}
use Rattle.trace_text.proofs.last.LastInstructionsWatcher.see.Goals as goal

-- it kept the last of those that were seen, and has room for one more
abbrev IsReady : (room : ℕ) → List PaidInstruction → LastInstructions room → Type 0
IsReady room seen w = (keep_last room (map kept_of seen) ≡ keep_last room (w.before.items ++ w.recent.items)) × (vec_len w.recent < room) × (room ≤ vec_capacity w.before) × (room ≤ vec_capacity w.recent)

pub returns : goal.returns
returns g c = λ seen was.
    let recent : List KeptInstruction = c.args.self.now.recent.items in
    let size : vec_len c.args.self.now.recent ≡ length recent = omega (arith, c.args.self.now.recent.ok.0) in
    let ready : IsReady g.row.ROOM seen c.if-len.self = elim c.if-len.branch [
      | then-len w ↦
          let full : length recent ≡ g.row.ROOM = omega (arith, was.1, size, c.len.ensures, w.if-len.true) in
          let all : keep_last g.row.ROOM (w.turn.new.self.before.items ++ w.turn.new.self.recent.items) ≡ recent =
          ap (λ (l : List KeptInstruction). keep_last g.row.ROOM l) ((λ j. w.turn.ensures.before j ++ w.turn.ensures.recent j) ∙ append-nil recent) ∙ last_few g.row.ROOM recent (omega (arith, full)) in
          subst (IsReady g.row.ROOM seen) (sym w.self-is)
          (was.0 ∙ last_list g.row.ROOM c.args.self.now.before.items recent full ∙ sym all, omega (arith, w.turn.ensures.empty, was.4), omega (arith, was.3, w.turn.ensures.room_before), omega (arith, was.2, w.turn.ensures.room))
      | else-len w ↦ subst (IsReady g.row.ROOM seen) (sym w.self-is) (was.0, omega (arith, c.len.ensures, w.if-len.false), was.2, was.3)
    ] in
    let pushed : c.push-kept.new.self.items ≡ c.if-len.self.recent.items ++ (kept_of c.args.instruction ∷ []) =
    c.push-kept.ensures.items ∙ if_ok c.push-kept.result _ _ (c.push-kept.ensures.succeeds (omega (arith, ready.1, ready.3))) in (
      ap (λ (l : List KeptInstruction). keep_last g.row.ROOM l) (kept_more seen c.args.instruction)
          ∙ alike_and_next g.row.ROOM (map kept_of seen) (c.if-len.self.before.items ++ c.if-len.self.recent.items) (kept_of c.args.instruction) ready.0
          ∙ ap (λ (l : List KeptInstruction). keep_last g.row.ROOM l) (append_assoc c.if-len.self.before.items c.if-len.self.recent.items (kept_of c.args.instruction ∷ []))
          ∙ ap (λ (l : List KeptInstruction). keep_last g.row.ROOM (c.if-len.self.before.items ++ l)) (sym pushed),
      omega (arith, ready.1, c.push-kept.ensures.upper_bound),
      ready.2,
      omega (arith, ready.3, c.push-kept.ensures.capacity),
      was.4,
    )
