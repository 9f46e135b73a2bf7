-- Surveys of texts.
use Rattle.std.proofs.Common.{◌≡◌, ◌≤◌, ◌+◌, ◌==◌, ℕ, suc, Bool, true, false, List, [], ◌∷◌, length, if◌then◌else◌, Option, Some, None, is_some, unwrap_or, IfSome, refl, ap, arith}
use Rattle.std.proofs.lemmas.Bool.Decides.{nat_tests}
use Rattle.pvm_asm.specs.Words.{pieces, begun_by, ended_lines, lines_of}
use Rattle.pvm_asm.specs.Numbers.{is_up_to}
use Rattle.pvm_asm.specs.Assembly.{after_line, width_set, early_kind, first_of, entry_width}
use Rattle.pvm_asm.specs.declared.survey.Survey.{Survey}
use Rattle.pvm_asm.specs.declared.line.Line.{Line}
use Rattle.pvm_asm.specs.declared.line.Statement.{Statement}
use Rattle.pvm_asm.specs.declared.line.Statement.TheVariants as statement
use Rattle.pvm_asm.specs.declared.keyword.Directive.TheVariants.{Meta, Ro, Rw, Heap, Stack, Width, Jump, Jumps, Lead}
use Rattle.pvm_asm.specs.declared.numeral.Numeral.{Numeral}

-- a width that is set is at most 8
abbrev pub IsNarrow : Option ℕ → Type 0
IsNarrow width = IfSome width (λ w. w ≤ 8)

set_if : (n : Numeral) (b : Bool) → is_up_to 8 n ≡ b → IsNarrow (if b then Some n.size else None)
set_if n true e = grind (arith, nat_tests)
set_if n false e = tt

set_narrow : (s : Statement) → IsNarrow (width_set s)
set_narrow (statement.Number Width n) = set_if n (is_up_to 8 n) refl
set_narrow (statement.Number Meta n) = tt
set_narrow (statement.Number Ro n) = tt
set_narrow (statement.Number Rw n) = tt
set_narrow (statement.Number Heap n) = tt
set_narrow (statement.Number Stack n) = tt
set_narrow (statement.Number Jump n) = tt
set_narrow (statement.Number Jumps n) = tt
set_narrow (statement.Number Lead n) = tt
set_narrow statement.Nothing = tt
set_narrow statement.Unknown = tt
set_narrow (statement.Bad sort) = tt
set_narrow (statement.Header header) = tt
set_narrow (statement.Bytes directive bytes) = tt
set_narrow (statement.Jump target) = tt
set_narrow (statement.Unit bytes) = tt
set_narrow (statement.Instruction instruction) = tt

first_narrow : (width : Option ℕ) (b : Bool) (s : Statement) → IsNarrow width → IsNarrow (first_of width (if b then None else width_set s))
first_narrow (Some w) b s h = h
first_narrow None true s h = tt
first_narrow None false s h = set_narrow s

pub stays_narrow : (s : Survey) (line : Line) → IsNarrow s.width → IsNarrow (after_line s line).width
stays_narrow s line h = first_narrow s.width (is_some (early_kind s line)) line.statement h

narrow_or : (width : Option ℕ) (b : Bool) → IsNarrow width → unwrap_or width (if b then 4 else 0) ≤ 8
narrow_or (Some w) b h = h
narrow_or None true h = omega arith
narrow_or None false h = omega arith

pub entries_narrow : (s : Survey) → IsNarrow s.width → entry_width s ≤ 8
entries_narrow s h = narrow_or s.width s.jumps h

begun_length : (b : ℕ) (ps : List (List ℕ)) → length (begun_by b ps) ≡ length ps
begun_length b [] = refl
begun_length b (p ∷ ps) = refl

pieces_length : (mark : ℕ) (xs : List ℕ) → length (pieces mark xs) ≤ length xs + 1
unfolding pieces
pieces_length mark [] = omega arith
pieces_length mark (x ∷ xs) =
    let more : length (pieces mark xs) ≤ length xs + 1 = pieces_length mark xs in
    elim (x == mark) as (λ b. length (if b then [] ∷ pieces mark xs else begun_by x (pieces mark xs)) ≤ length (x ∷ xs) + 1) [
      | true ↦ omega arith
      | false ↦ omega (arith, begun_length x (pieces mark xs))
    ]

ended_length : (ls : List (List ℕ)) → length (ended_lines ls) ≡ length ls
ended_length [] = refl
ended_length (l ∷ []) = refl
ended_length (l ∷ (m ∷ ms)) = ap suc (ended_length (m ∷ ms))

-- a text has at most one line more than bytes
pub lines_length : (text : List ℕ) → length (lines_of text) ≤ length text + 1
lines_length text = omega (arith, ended_length (pieces 10 text), pieces_length 10 text)
