-- Texts that are printed one piece after another.
use Rattle.std.proofs.Common.{◌≡◌, ◌<◌, ◌≤◌, ℕ, zero, suc, ◌+◌, List, [], ◌∷◌, ◌++◌, length, get_or, take, drop, map, ◌-◌, Bool, length-take-le, slice_get, Some, codes, decimal, refl, sym, ap, ◌∙◌, arith, append_assoc, append-nil}
use Rattle.std.proofs.lemmas.List.{drop_more, drop_all}
use Rattle.std.proofs.lemmas.Option.{slice_get_within, get_or_from_slice_get}
use Rattle.pvm_asm.specs.declared.instruction.Operand.{Operand}
use Rattle.pvm_disasm.specs.Units.{later_operands}
use Rattle.hex.specs.Hex.{encode_lower}
use Rattle.blob_decode.specs.Program.{Program}
use Rattle.pvm_disasm.specs.Listing.{lead, code_units, lines_text, jump_line, jump_lines, lead_lines, unit_lines, program_lines, listing}

pub lines-append : (xs ys : List (List ℕ)) → lines_text (xs ++ ys) ≡ lines_text xs ++ lines_text ys
unfolding lines_text
lines-append [] ys = refl
lines-append (x ∷ xs) ys = ap (λ t. x ++ (10 ∷ t)) (lines-append xs ys) ∙ sym (append_assoc x (10 ∷ lines_text xs) (lines_text ys))

-- one operand more
pub operands-more : (f : Operand → List ℕ) (done next old : List ℕ) (operands : List Operand) (i : ℕ) (operand : Operand) → i < length operands → operand ≡ get_or operands i operand
    → done ++ later_operands (map f (drop i operands)) ≡ old → next ≡ (done ++ (44 ∷ (32 ∷ []))) ++ f operand → next ++ later_operands (map f (drop (i + 1) operands)) ≡ old
operands-more f done next old operands i operand h is before e =
    let split : drop i operands ≡ operand ∷ drop (i + 1) operands = drop_more operands i operand h ∙ ap (λ o. o ∷ drop (i + 1) operands) (sym is) in
    let rest : List ℕ = later_operands (map f (drop (i + 1) operands)) in
    ap (λ t. t ++ rest) e
    ∙ append_assoc (done ++ (44 ∷ (32 ∷ []))) (f operand) rest
    ∙ append_assoc done (44 ∷ (32 ∷ [])) (f operand ++ rest)
    ∙ ap (λ os. done ++ later_operands (map f os)) (sym split)
    ∙ before

pub operands-all : (f : Operand → List ℕ) (done old : List ℕ) (operands : List Operand) (i : ℕ) → length operands ≤ i → done ++ later_operands (map f (drop i operands)) ≡ old → done ≡ old
operands-all f done old operands i h before =
    sym (append-nil done) ∙ ap (λ os. done ++ later_operands (map f os)) (sym (drop_all i operands h)) ∙ before

-- one entry of the jump table more
pub entries-more : (text next old jumps : List ℕ) (k place : ℕ) → slice_get jumps k ≡ Some place
    → text ++ lines_text (map jump_line (drop k jumps)) ≡ old → next ≡ text ++ (jump_line place ++ (10 ∷ [])) → next ++ lines_text (map jump_line (drop (k + 1) jumps)) ≡ old
unfolding lines_text
entries-more text next old jumps k place found before e =
    let within : k < length jumps = slice_get_within jumps k place found in
    let is : get_or jumps k 0 ≡ place = get_or_from_slice_get jumps k place 0 found in
    let split : drop k jumps ≡ place ∷ drop (k + 1) jumps = drop_more jumps k 0 within ∙ ap (λ p. p ∷ drop (k + 1) jumps) is in
    let rest : List ℕ = lines_text (map jump_line (drop (k + 1) jumps)) in
    ap (λ t. t ++ rest) e
    ∙ append_assoc text (jump_line place ++ (10 ∷ [])) rest
    ∙ ap (λ t. text ++ t) (append_assoc (jump_line place) (10 ∷ []) rest)
    ∙ ap (λ ps. text ++ lines_text (map jump_line ps)) (sym split)
    ∙ before

pub entries-all : (text old jumps : List ℕ) (k : ℕ) → length jumps ≤ k → text ++ lines_text (map jump_line (drop k jumps)) ≡ old → text ≡ old
unfolding lines_text
entries-all text old jumps k past before =
    sym (append-nil text) ∙ ap (λ ps. text ++ lines_text (map jump_line ps)) (sym (drop_all k jumps past)) ∙ before

-- entries without bytes, and none
pub blanks-listed : (text next jumps : List ℕ) (width : ℕ) → width ≤ 0 → 0 < length jumps → next ≡ text ++ (codes ".jumps " ++ (decimal (length jumps) ++ (10 ∷ []))) → next ≡ text ++ lines_text (jump_lines width jumps)
unfolding lines_text
blanks-listed text next [] width none some e = absurd (omega arith)
blanks-listed text next (place ∷ places) zero none some e = e
blanks-listed text next (place ∷ places) (suc width) none some e = absurd (omega arith)

pub no-blanks : (text jumps : List ℕ) (width : ℕ) → width ≤ 0 → length jumps ≤ 0 → text ≡ text ++ lines_text (jump_lines width jumps)
unfolding lines_text
no-blanks text [] zero none few = sym (append-nil text)
no-blanks text [] (suc width) none few = absurd (omega arith)
no-blanks text (place ∷ places) width none few = absurd (omega arith)

-- bytes before the first unit, and none
pub lead-listed : (text next bytes digits : List ℕ) → 1 ≤ length bytes → digits ≡ encode_lower bytes → next ≡ text ++ (codes ".lead " ++ (digits ++ (10 ∷ []))) → next ≡ text ++ lines_text (lead_lines bytes)
unfolding lines_text
lead-listed text next [] digits some is e = absurd (omega arith)
lead-listed text next (byte ∷ bytes) digits some is e = e ∙ ap (λ ds. text ++ (codes ".lead " ++ (ds ++ (10 ∷ [])))) is

pub no-lead : (text bytes : List ℕ) → length bytes < 1 → text ≡ text ++ lines_text (lead_lines bytes)
unfolding lines_text
no-lead text [] few = sym (append-nil text)
no-lead text (byte ∷ bytes) few = absurd (omega arith)

-- the lines of the code, and all lines
pub code-listed : (text mid next : List ℕ) (mask : List Bool) (code : List ℕ) (first : ℕ) → first ≤ length code
    → lead mask code ≡ take (first - 0) code → code_units mask code ≡ code_units (drop first mask) (drop first code)
    → mid ≡ text ++ lines_text (lead_lines (take first code))
    → next ≡ mid ++ lines_text (unit_lines first (code_units (drop first mask) (drop first code)))
    → next ≡ text ++ lines_text (lead_lines (lead mask code) ++ unit_lines (length (lead mask code)) (code_units mask code))
code-listed text mid next mask code first within lead_is units_are e f =
    let none : first - 0 ≡ first = omega arith in
    let front : lead mask code ≡ take first code = lead_is ∙ ap (λ n. take n code) none in
    let size : length (lead mask code) ≡ first = ap length front ∙ length-take-le first code within in
    let rest : List (List ℕ) = code_units (drop first mask) (drop first code) in
    f
    ∙ ap (λ t. t ++ lines_text (unit_lines first rest)) e
    ∙ append_assoc text (lines_text (lead_lines (take first code))) (lines_text (unit_lines first rest))
    ∙ ap (λ t. text ++ t) (sym (lines-append (lead_lines (take first code)) (unit_lines first rest)))
    ∙ ap (λ l. text ++ lines_text (lead_lines l ++ unit_lines first rest)) (sym front)
    ∙ ap (λ n. text ++ lines_text (lead_lines (lead mask code) ++ unit_lines n rest)) (sym size)
    ∙ ap (λ us. text ++ lines_text (lead_lines (lead mask code) ++ unit_lines (length (lead mask code)) us)) (sym units_are)

pub all-listed : (p : Program) (first second third : List ℕ) → first ≡ codes ".raw\n.width " ++ (decimal p.width ++ (10 ∷ []))
    → second ≡ first ++ lines_text (jump_lines p.width p.jumps)
    → third ≡ second ++ lines_text (lead_lines (lead p.mask p.code) ++ unit_lines (length (lead p.mask p.code)) (code_units p.mask p.code))
    → third ≡ listing p
unfolding listing program_lines lines_text
all-listed p first second third e f g =
    let table : List (List ℕ) = jump_lines p.width p.jumps in
    let code : List (List ℕ) = lead_lines (lead p.mask p.code) ++ unit_lines (length (lead p.mask p.code)) (code_units p.mask p.code) in
    g
    ∙ ap (λ t. t ++ lines_text code) f
    ∙ append_assoc first (lines_text table) (lines_text code)
    ∙ ap (λ t. first ++ t) (sym (lines-append table code))
    ∙ ap (λ t. t ++ lines_text (table ++ code)) e
    ∙ ap (λ t. codes ".raw\n.width " ++ t) (append_assoc (decimal p.width) (10 ∷ []) (lines_text (table ++ code)))
