-- The lines of instructions that are kept without their opcodes.
use Rattle.std.proofs.Common.{◌≡◌, ℕ, ◌+◌, ◌-◌, List, [], ◌∷◌, ◌++◌, Bool, true, false, cond, length, map, drop, refl, ap, sym, ◌∙◌}
use Rattle.std.specs.Prelude.{nat_lt, is_some, ◌||◌, if◌then◌else◌}
use Rattle.std.proofs.lemmas.List.{drop-map, length-map, map-append}
use Rattle.circular_buffer.specs.Buffer.{keep_last}
use Rattle.blob_decode.specs.Program.{Program}
use Rattle.pvm_step.specs.History.{Moment, cost}
use Rattle.pvm_step.specs.Watched.{instruction_at, paid_at, paid_instructions}
use Rattle.pvm_step.specs.declared.watcher.PaidInstruction.{PaidInstruction}
use Rattle.trace_text.specs.declared.last.KeptInstruction.{KeptInstruction}
use Rattle.trace_text.specs.declared.line.Line.{Line}
use Rattle.trace_text.specs.Traces.{step_line, kept_of, kept_line}

-- the last of what a list is made into are what the last are made into
pub last_of_map : {X Y : Type 0} (f : X → Y) (n : ℕ) (xs : List X) → keep_last n (map f xs) ≡ map f (keep_last n xs)
last_of_map f n xs = ap (λ (k : ℕ). drop (k - n) (map f xs)) (length-map xs f) ∙ drop-map f (length xs - n) xs

-- one more
pub kept_more : (seen : List PaidInstruction) (i : PaidInstruction) → map kept_of (seen ++ (i ∷ [])) ≡ map kept_of seen ++ (kept_of i ∷ [])
kept_more seen i = map-append kept_of seen (i ∷ [])

one_line : (k : ℕ) (p : Program) (m : Moment) (b : Bool)
    → map (kept_line p) (map kept_of (if b then [] else instruction_at k p m ∷ [])) ≡ map step_line (if b then [] else instruction_at k p m ∷ [])
one_line k p m true = refl
one_line k p m false = refl

-- what was paid has the lines of what is kept of it
pub lines_of_kept : (ms : List Moment) (k : ℕ) (p : Program) → map (kept_line p) (map kept_of (paid_instructions k p ms)) ≡ map step_line (paid_instructions k p ms)
unfolding paid_instructions
lines_of_kept [] k p = refl
lines_of_kept (m ∷ ms) k p =
    let now : List PaidInstruction = paid_at k p m in
    let later : List PaidInstruction = paid_instructions (k + 1) p ms in
    ap (map (kept_line p)) (map-append kept_of now later)
    ∙ map-append (kept_line p) (map kept_of now) (map kept_of later)
    ∙ (λ i. one_line k p m (is_some m.exit || nat_lt m.gas (cost p m)) i ++ lines_of_kept ms (k + 1) p i)
    ∙ sym (map-append step_line now later)

-- so it is with the last of them
pub last_lines : (n k : ℕ) (p : Program) (ms : List Moment)
    → map (kept_line p) (keep_last n (map kept_of (paid_instructions k p ms))) ≡ map step_line (keep_last n (paid_instructions k p ms))
last_lines n k p ms =
    sym (last_of_map (kept_line p) n (map kept_of (paid_instructions k p ms)))
    ∙ ap (keep_last n) (lines_of_kept ms k p)
    ∙ last_of_map step_line n (paid_instructions k p ms)
