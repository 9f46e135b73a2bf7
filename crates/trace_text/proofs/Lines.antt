-- Lines, one after another.
use Rattle.std.proofs.Common.{◌≡◌, ℕ, ◌+◌, ◌<◌, ◌≤◌, List, [], ◌∷◌, ◌++◌, length, get_or, drop, ap, ◌∙◌, add-one, sym, append_assoc}
use Rattle.std.proofs.lemmas.List.{append-nil}
use Rattle.std.proofs.Math.Seq.{drop-cons}
use Rattle.std.proofs.Math.ListN.{drop_of_length-le}
use Rattle.trace_text.specs.declared.line.Line.{Line}
use Rattle.trace_text.specs.declared.line.Line.TheVariants as of
use Rattle.trace_text.specs.Transcript.{line_bytes, text_of, register_lines}

-- the lines of a list, of which the first k were spelled
text_step : (k : ℕ) (lines : List Line) (line : Line) → k < length lines → text_of (drop k lines) ≡ line_bytes (get_or lines k line) ++ text_of (drop (k + 1) lines)
unfolding text_of
text_step k lines line h = ap text_of (drop-cons lines k line h) ∙ rw (add-one k)

pub text_more : (text next : List ℕ) (k : ℕ) (lines : List Line) (line : Line) → k < length lines → text ++ text_of (drop k lines) ≡ text_of lines
    → next ≡ text ++ line_bytes (get_or lines k line) → next ++ text_of (drop (k + 1) lines) ≡ text_of lines
text_more text next k lines line h before e =
    ap (λ b. b ++ text_of (drop (k + 1) lines)) e
    ∙ append_assoc text (line_bytes (get_or lines k line)) (text_of (drop (k + 1) lines))
    ∙ ap (λ b. text ++ b) (sym (text_step k lines line h))
    ∙ before

pub text_all : (text : List ℕ) (k : ℕ) (lines : List Line) → length lines ≤ k → text ++ text_of (drop k lines) ≡ text_of lines → text ≡ text_of lines
unfolding text_of
text_all text k lines h before =
    let none : drop k lines ≡ [] = drop_of_length-le lines h in
    sym (append-nil text) ∙ ap (λ b. text ++ text_of b) (sym none) ∙ before

-- the lines of registers, of which the first k were added
registers_step : (k : ℕ) (xs : List ℕ) → k < length xs → register_lines k (drop k xs) ≡ of.Register k (get_or xs k 0) ∷ register_lines (k + 1) (drop (k + 1) xs)
unfolding register_lines
registers_step k xs h = ap (register_lines k) (drop-cons xs k 0 h) ∙ rw (add-one k)

pub registers_more : (lines next old : List Line) (k : ℕ) (xs : List ℕ) → k < length xs → lines ++ register_lines k (drop k xs) ≡ old ++ register_lines 0 xs
    → next ≡ lines ++ (of.Register k (get_or xs k 0) ∷ []) → next ++ register_lines (k + 1) (drop (k + 1) xs) ≡ old ++ register_lines 0 xs
registers_more lines next old k xs h before e =
    ap (λ b. b ++ register_lines (k + 1) (drop (k + 1) xs)) e
    ∙ append_assoc lines (of.Register k (get_or xs k 0) ∷ []) (register_lines (k + 1) (drop (k + 1) xs))
    ∙ ap (λ b. lines ++ b) (sym (registers_step k xs h))
    ∙ before

pub registers_all : (lines old : List Line) (k : ℕ) (xs : List ℕ) → length xs ≤ k → lines ++ register_lines k (drop k xs) ≡ old ++ register_lines 0 xs → lines ≡ old ++ register_lines 0 xs
unfolding register_lines
registers_all lines old k xs h before =
    let none : drop k xs ≡ [] = drop_of_length-le xs h in
    sym (append-nil lines) ∙ ap (λ b. lines ++ register_lines k b) (sym none) ∙ before

-- a line that is put behind a text, before others
pub text_pushed : (text next : List ℕ) (line : Line) (rest : List Line) → next ≡ text ++ line_bytes line → next ++ text_of rest ≡ text ++ text_of (line ∷ rest)
unfolding text_of
text_pushed text next line rest e = ap (λ b. b ++ text_of rest) e ∙ append_assoc text (line_bytes line) (text_of rest)

pub text_done : (text : List ℕ) → text ++ text_of [] ≡ text
unfolding text_of
text_done text = append-nil text
