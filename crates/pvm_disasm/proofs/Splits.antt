-- Lines that are printed one after another are read as these lines again.
use Rattle.std.proofs.Common.{◌≡◌, ◌<◌, ◌≤◌, ℕ, zero, suc, ◌-◌, true, false, ◌&&◌, ◌==◌, nat_lt, nat_le, List, [], ◌∷◌, ◌++◌, length, get_or, take, refl, ap, ◌∙◌, arith}
use Rattle.std.specs.List.{list_all}
use Rattle.std.proofs.lemmas.Bool.{and_parts, and_right, cond-false, leb-true, ne_eqb}
use Rattle.pvm_asm.specs.Words.{pieces, begun_by, ended_lines, without_return, lines_of}
use Rattle.pvm_disasm.specs.Listing.{lines_text}
use Rattle.pvm_disasm.proofs.Plain.{IsPlain}

abbrev pub ArePlain : List (List ℕ) → Type 0
ArePlain [] = Unit {0}
ArePlain (line ∷ lines) = IsPlain line × ArePlain lines

pub ArePlain-append : (xs ys : List (List ℕ)) → ArePlain xs → ArePlain ys → ArePlain (xs ++ ys)
ArePlain-append [] ys h k = k
ArePlain-append (x ∷ xs) ys h k = (h.0, ArePlain-append xs ys h.1 k)

-- a line's bytes are not these
not-in : (m b : ℕ) → m < 32 → nat_le 32 b ≡ true → (b == m) ≡ false
not-in m b low h = let high : 32 ≤ b = leb-true 32 b h in ne_eqb b m (λ e. absurd (omega (arith, e)))

not-at : (line : List ℕ) (k : ℕ) → IsPlain line → (get_or line k 0 == 13) ≡ false
not-at [] k h = refl
not-at (b ∷ line) zero h = not-in 13 b (omega arith) (and_parts (nat_le 32 b) (list_all (nat_le 32) line) h).0
not-at (b ∷ line) (suc k) h = not-at line k (and_parts (nat_le 32 b) (list_all (nat_le 32) line) h).1

-- the first line feed ends the first line
piece-ends : (line rest : List ℕ) → IsPlain line → pieces 10 (line ++ (10 ∷ rest)) ≡ line ∷ pieces 10 rest
unfolding pieces
piece-ends [] rest h = refl
piece-ends (b ∷ line) rest h =
    let parts = and_parts (nat_le 32 b) (list_all (nat_le 32) line) h in
    cond-false (b == 10) ([] ∷ pieces 10 (line ++ (10 ∷ rest))) (begun_by b (pieces 10 (line ++ (10 ∷ rest)))) (not-in 10 b (omega arith) parts.0)
    ∙ ap (begun_by b) (piece-ends line rest parts.1)

pieces-text : (lines : List (List ℕ)) → ArePlain lines → pieces 10 (lines_text lines) ≡ lines ++ ([] ∷ [])
unfolding pieces lines_text
pieces-text [] h = refl
pieces-text (line ∷ lines) h = piece-ends line (lines_text lines) h.0 ∙ ap (λ ls. line ∷ ls) (pieces-text lines h.1)

no-return : (line : List ℕ) → IsPlain line → without_return line ≡ line
no-return line h =
    cond-false (nat_lt 0 (length line) && get_or line (length line - 1) 0 == 13) (take (length line - 1) line) line
    (and_right (nat_lt 0 (length line)) (get_or line (length line - 1) 0 == 13) (not-at line (length line - 1) h))

ended-text : (lines : List (List ℕ)) → ArePlain lines → ended_lines (lines ++ ([] ∷ [])) ≡ lines ++ ([] ∷ [])
ended-text [] h = refl
ended-text (line ∷ []) h = ap (λ l. l ∷ ([] ∷ [])) (no-return line h.0)
ended-text (line ∷ (next ∷ lines)) h =
    ap (λ l. l ∷ ended_lines ((next ∷ lines) ++ ([] ∷ []))) (no-return line h.0)
    ∙ ap (λ ls. line ∷ ls) (ended-text (next ∷ lines) h.1)

-- after the last line feed stands a line without a byte
pub lines-text : (lines : List (List ℕ)) → ArePlain lines → lines_of (lines_text lines) ≡ lines ++ ([] ∷ [])
lines-text lines h = ap ended_lines (pieces-text lines h) ∙ ended-text lines h
