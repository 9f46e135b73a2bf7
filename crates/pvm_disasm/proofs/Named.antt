-- What a line that is an instruction by name says.
use Rattle.std.proofs.Common.{◌≡◌, ◌<◌, ◌≤◌, ℕ, suc, ◌+◌, ◌-◌, ◌^◌, Bool, true, false, not, ◌==◌, nat_lt, nat_le, List, [], ◌∷◌, ◌++◌, length, take, drop, map, decimal, Option, Some, None, refl, sym, ap, ◌∙◌, arith, lit<, append-nil, length-append}
use Rattle.std.specs.List.{list_all}
use Rattle.std.proofs.lemmas.Bool.{and_parts, and_from, cond-false, cond_both}
use Rattle.std.proofs.lemmas.List.{take_all, drop_at}
use Rattle.pvm_isa.specs.declared.arguments.Args.{Args}
use Rattle.pvm_isa.specs.declared.op.Op.{Op}
use Rattle.pvm_isa.specs.declared.op.Op.TheVariants.{Trap}
use Rattle.pvm_isa.specs.Opcodes.{entry, name_of, form_of, op_with_name}
use Rattle.pvm_isa.specs.OpcodeLaws.{named}
use Rattle.pvm_asm.specs.Words.{uncommented, unpadded, first_word, after_word, operands_of, is_label_mark}
use Rattle.pvm_asm.specs.Statements.{form_operands, sort_named, named_statement, op_statement, instruction_statement, statement_in, read_line}
use Rattle.pvm_asm.specs.Alone.{statement_code, line_code}
use Rattle.pvm_asm.specs.declared.instruction.Operand.{Operand}
use Rattle.pvm_asm.specs.declared.instruction.Operand.TheVariants.{A, B, D, X, Y, T}
use Rattle.pvm_asm.specs.declared.keyword.Sort.{Sort}
use Rattle.pvm_asm.specs.declared.line.Statement.TheVariants as statement
use Rattle.pvm_disasm.specs.declared.operands.Destination.{Destination}
use Rattle.pvm_disasm.specs.declared.operands.Destination.TheVariants.{Place, Offset}
use Rattle.pvm_disasm.specs.Units.{signed_text, destination_text, operand_text, later_operands, operands_text, instruction_text, is_unit_given, assembles}
use Rattle.pvm_disasm.proofs.Lists.{all-append, prefix-whole}
use Rattle.pvm_disasm.proofs.Plain.{IsDense, decimal-dense, name-dense}
use Rattle.pvm_disasm.proofs.Said.{unlabelled, unmarked, unpadded-word, first-before, after-before, first-whole, after-whole, not-empty, IsName, read_by}

-- ---- No operand has a `#`

abbrev IsClean : List ℕ → Type 0
IsClean xs = list_all (λ b. not (b == 35)) xs ≡ true

marked-clean : (mark n : ℕ) → not (mark == 35) ≡ true → IsClean (mark ∷ decimal n)
marked-clean mark n h = and_from (not (mark == 35)) (list_all (λ b. not (b == 35)) (decimal n)) h (unmarked 35 (omega arith) (decimal n) (decimal-dense n))

signed-clean : (x : ℕ) → IsClean (signed_text x)
signed-clean x = cond_both (nat_lt x (2 ^ 63)) (decimal x) (45 ∷ decimal (2 ^ 64 - x)) IsClean
    (λ e. unmarked 35 (omega arith) (decimal x) (decimal-dense x)) (λ e. marked-clean 45 (2 ^ 64 - x) refl)

destination-clean : (to : Destination) → IsClean (destination_text to)
destination-clean (Place place) = marked-clean 61 place refl
destination-clean (Offset x) = cond_both (nat_lt x (2 ^ 63)) (43 ∷ decimal x) (45 ∷ decimal (2 ^ 64 - x)) IsClean
    (λ e. marked-clean 43 x refl) (λ e. marked-clean 45 (2 ^ 64 - x) refl)

operand-clean : (args : Args) (to : Destination) (operand : Operand) → IsClean (operand_text args to operand)
operand-clean args to A = marked-clean 114 args.a refl
operand-clean args to B = marked-clean 114 args.b refl
operand-clean args to D = marked-clean 114 args.d refl
operand-clean args to X = signed-clean args.x
operand-clean args to Y = signed-clean args.y
operand-clean args to T = destination-clean to

later-clean : (args : Args) (to : Destination) (operands : List Operand) → IsClean (later_operands (map (operand_text args to) operands))
later-clean args to [] = refl
later-clean args to (operand ∷ operands) = all-append (λ b. not (b == 35)) (operand_text args to operand) (later_operands (map (operand_text args to) operands)) (operand-clean args to operand) (later-clean args to operands)

operands-clean : (args : Args) (to : Destination) (operands : List Operand) → IsClean (operands_text (map (operand_text args to) operands))
operands-clean args to [] = refl
operands-clean args to (operand ∷ operands) = all-append (λ b. not (b == 35)) (operand_text args to operand) (later_operands (map (operand_text args to) operands)) (operand-clean args to operand) (later-clean args to operands)

-- ---- Names, computed once for each opcode

name-some : (op : Op) → 0 < length (name_of op)
unfolding entry
name-some Trap = lit< tt
name-some _ = lit< tt

name-no_label : (op : Op) → is_label_mark (name_of op) ≡ false
unfolding entry
name-no_label Trap = refl
name-no_label _ = refl

name-no_sort : (op : Op) → sort_named (name_of op) ≡ None
unfolding entry sort_named
name-no_sort Trap = refl
name-no_sort _ = refl

-- ---- The line

whole-unpadded : (name rest : List ℕ) → IsName name → unpadded (name ++ rest) ≡ name ++ rest
whole-unpadded [] rest n = absurd (omega (arith, n.some))
whole-unpadded (c ∷ cs) rest n = unpadded-word c (cs ++ rest) (and_parts (nat_le 45 c) (list_all (nat_le 45) cs) n.dense).0

name-first : (name : List ℕ) (operands : List (List ℕ)) → IsName name → first_word (name ++ operands_text operands) ≡ name
name-first name [] n = ap first_word (append-nil name) ∙ first-whole name n.dense
name-first name (operand ∷ operands) n = first-before name (operand ++ later_operands operands) n.dense

name-after : (name : List ℕ) (operands : List (List ℕ)) → IsName name → after_word (name ++ operands_text operands) ≡ operands_text operands
name-after name [] n = ap after_word (append-nil name) ∙ after-whole name n.dense
name-after name (operand ∷ operands) n = after-before name (operand ++ later_operands operands) n.dense

said-by : (name : List ℕ) (operands : List (List ℕ)) → IsName name → statement_in (name ++ operands_text operands) ≡ named_statement (sort_named name) name (operands_of (operands_text operands))
said-by [] operands n = absurd (omega (arith, n.some))
said-by (c ∷ cs) operands n =
    let text : List ℕ = (c ∷ cs) ++ operands_text operands in
    cond-false _ statement.Nothing (named_statement (sort_named (first_word text)) (first_word text) (operands_of (after_word text))) (not-empty c (cs ++ operands_text operands))
    ∙ ap (λ f. named_statement (sort_named f) f (operands_of (after_word text))) (name-first (c ∷ cs) operands n)
    ∙ ap (λ t. named_statement (sort_named (c ∷ cs)) (c ∷ cs) (operands_of t)) (name-after (c ∷ cs) operands n)

name-read : (name : List ℕ) (operands : List (List ℕ)) → IsName name → IsClean (name ++ operands_text operands)
    → read_line (name ++ operands_text operands) ≡ unlabelled (named_statement (sort_named name) name (operands_of (operands_text operands)))
name-read name operands n clean =
    let text : List ℕ = name ++ operands_text operands in
    let whole : uncommented text ≡ text = ap (λ k. take k text) (prefix-whole (λ b. not (b == 35)) text clean) ∙ take_all (length text) text (omega arith) in
    ap (λ t. read_by (first_word t) t) (ap unpadded whole ∙ whole-unpadded name (operands_text operands) n)
    ∙ ap (λ f. read_by f text) (name-first name operands n)
    ∙ cond-false (is_label_mark name) _ (unlabelled (statement_in text)) n.no_label
    ∙ ap unlabelled (said-by name operands n)

-- an instruction by name is read as that opcode with the operands after its name
pub named-read : (op : Op) (args : Args) (to : Destination)
    → read_line (instruction_text op args to) ≡ unlabelled (instruction_statement op (operands_of (drop (length (name_of op)) (instruction_text op args to))))
unfolding instruction_text
named-read op args to =
    let operands : List (List ℕ) = map (operand_text args to) (form_operands (form_of op)) in
    let n : IsName (name_of op) = record { dense = name-dense op; some = name-some op; no_label = name-no_label op } in
    let clean : IsClean (name_of op ++ operands_text operands) =
    all-append (λ b. not (b == 35)) (name_of op) (operands_text operands) (unmarked 35 (omega arith) (name_of op) (name-dense op)) (operands-clean args to (form_operands (form_of op))) in
    name-read (name_of op) operands n clean
    ∙ ap (λ (s : Option Sort). unlabelled (named_statement s (name_of op) (operands_of (operands_text operands)))) (name-no_sort op)
    ∙ ap (λ (o : Option Op). unlabelled (op_statement o (operands_of (operands_text operands)))) (named op)
    ∙ ap (λ t. unlabelled (instruction_statement op (operands_of t))) (sym (drop_at (name_of op) (operands_text operands) (length (name_of op)) refl))

pub named-assembles : (op : Op) (args : Args) (to : Destination) (place : ℕ) (unit : List ℕ)
    → is_unit_given unit (statement_code place (instruction_statement op (operands_of (drop (length (name_of op)) (instruction_text op args to))))) ≡ assembles place unit (instruction_text op args to)
named-assembles op args to place unit = ap (λ l. is_unit_given unit (line_code place l)) (sym (named-read op args to))

pub name-within : (op : Op) (args : Args) (to : Destination) → length (name_of op) ≤ length (instruction_text op args to)
unfolding instruction_text
name-within op args to = omega (arith, length-append (name_of op) (operands_text (map (operand_text args to) (form_operands (form_of op)))))
