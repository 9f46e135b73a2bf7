-- What a line says, read by itself (this project's own).
use Rattle.std.specs.Prelude.{ℕ, true, false, List, [], ◌∷◌, ◌==◌, length, take, drop, ◌-◌, get_or, codes, if◌then◌else◌, Option, Some, None}
use Rattle.std.specs.Option.{option_map, option_and_then}
use Rattle.std.specs.List.{find}
use Rattle.std.specs.Str.{bytes_eq}
use Rattle.pvm_isa.specs.declared.form.Form.{Form}
use Rattle.pvm_isa.specs.declared.form.Form.TheVariants.{F1, F2, F3, F4, F5, F6, F7, F8, F9, F10, F11, F12, F13}
use Rattle.pvm_isa.specs.declared.op.Op.{Op}
use Rattle.pvm_isa.specs.Opcodes.{form_of, op_with_name}
use Rattle.pvm_asm.specs.Words.{uncommented, unpadded, first_word, after_word, operands_of, only_operand, is_label, is_label_mark, is_empty}
use Rattle.pvm_asm.specs.Numbers.{numeral, unsigned, with_sign, register_named, hex_bytes}
use Rattle.pvm_asm.specs.declared.numeral.Numeral.{Numeral}
use Rattle.pvm_asm.specs.declared.instruction.Target.{Target}
use Rattle.pvm_asm.specs.declared.instruction.Target.TheVariants.{Absent, Label, Place, Offset}
use Rattle.pvm_asm.specs.declared.instruction.Operand.{Operand}
use Rattle.pvm_asm.specs.declared.instruction.Operand.TheVariants.{A, B, D, X, Y, T}
use Rattle.pvm_asm.specs.declared.instruction.Instruction.{Instruction}
use Rattle.pvm_asm.specs.declared.keyword.Header.TheVariants.{Raw, Standard, Code}
use Rattle.pvm_asm.specs.declared.keyword.Directive.{Directive}
use Rattle.pvm_asm.specs.declared.keyword.Directive.TheVariants.{Meta, Ro, Rw, Heap, Stack, Width, Jump, Jumps, Lead}
use Rattle.pvm_asm.specs.declared.keyword.Sort.{Sort}
use Rattle.pvm_asm.specs.declared.keyword.Sort.TheVariants as sort
use Rattle.pvm_asm.specs.declared.line.Statement.{Statement}
use Rattle.pvm_asm.specs.declared.line.Statement.TheVariants as statement
use Rattle.pvm_asm.specs.declared.line.Line.{Line}

-- ---- Names

-- a statement with a name of its own is a header, a directive or bytes of code
abbrev pub sort_text : Sort → List ℕ
sort_text (sort.Header Raw) = codes ".raw"
sort_text (sort.Header Standard) = codes ".standard"
sort_text (sort.Header Code) = codes ".code"
sort_text (sort.Directive Meta) = codes ".meta"
sort_text (sort.Directive Ro) = codes ".ro"
sort_text (sort.Directive Rw) = codes ".rw"
sort_text (sort.Directive Heap) = codes ".heap"
sort_text (sort.Directive Stack) = codes ".stack"
sort_text (sort.Directive Width) = codes ".width"
sort_text (sort.Directive Jump) = codes ".jump"
sort_text (sort.Directive Jumps) = codes ".jumps"
sort_text (sort.Directive Lead) = codes ".lead"
sort_text sort.Unit = codes ".unit"

abbrev pub all_sorts : List Sort
all_sorts =
    sort.Header Raw ∷ sort.Header Standard ∷ sort.Header Code ∷ sort.Directive Meta ∷ sort.Directive Ro ∷ sort.Directive Rw ∷ sort.Directive Heap ∷
    sort.Directive Stack ∷ sort.Directive Width ∷ sort.Directive Jump ∷ sort.Directive Jumps ∷ sort.Directive Lead ∷ sort.Unit ∷ []

unfoldable pub sort_named : List ℕ → Option Sort
sort_named name = find (λ s. bytes_eq (sort_text s) name) all_sorts

-- ---- Operands

-- a target: a label, `=N` for a place, `+N` or `-N` for an offset
abbrev pub target_of : List ℕ → Option Target
target_of word =
    if get_or word 0 0 == 61 then option_map Place (numeral (drop 1 word))
    else if get_or word 0 0 == 43 then option_map Offset (with_sign false (unsigned (drop 1 word)))
    else if get_or word 0 0 == 45 then option_map Offset (with_sign true (unsigned (drop 1 word)))
    else if is_label word then Some (Label word)
    else None

-- an entry of the jump table: a label or `=N`
abbrev pub entry_target : List ℕ → Option Target
entry_target word =
    if get_or word 0 0 == 61 then option_map Place (numeral (drop 1 word))
    else if is_label word then Some (Label word)
    else None

-- the operands of each form, in order: registers A, B and D, immediates X and Y, a target T
abbrev pub form_operands : Form → List Operand
form_operands F1 = []
form_operands F2 = X ∷ []
form_operands F3 = A ∷ X ∷ []
form_operands F4 = X ∷ Y ∷ []
form_operands F5 = T ∷ []
form_operands F6 = A ∷ X ∷ []
form_operands F7 = A ∷ X ∷ Y ∷ []
form_operands F8 = A ∷ X ∷ T ∷ []
form_operands F9 = D ∷ A ∷ []
form_operands F10 = A ∷ B ∷ X ∷ []
form_operands F11 = A ∷ B ∷ T ∷ []
form_operands F12 = A ∷ B ∷ X ∷ Y ∷ []
form_operands F13 = D ∷ A ∷ B ∷ []

abbrev pub naught : Numeral
naught = record { negative = false; size = 0 }

-- an instruction without operands
abbrev pub bare : Op → Instruction
bare op = record { op = op; a = 0; b = 0; d = 0; x = naught; y = naught; target = Absent }

-- the instruction with one operand more
abbrev pub with_operand : Operand → List ℕ → Instruction → Option Instruction
with_operand A word i = option_map (λ r. record i { a = r }) (register_named word)
with_operand B word i = option_map (λ r. record i { b = r }) (register_named word)
with_operand D word i = option_map (λ r. record i { d = r }) (register_named word)
with_operand X word i = option_map (λ n. record i { x = n }) (numeral word)
with_operand Y word i = option_map (λ n. record i { y = n }) (numeral word)
with_operand T word i = option_map (λ t. record i { target = t }) (target_of word)

-- the instruction with these operands, as many words as there are to be
abbrev pub with_operands : List Operand → List (List ℕ) → Instruction → Option Instruction
with_operands [] [] i = Some i
with_operands [] (word ∷ words) i = None
with_operands (operand ∷ operands) [] i = None
with_operands (operand ∷ operands) (word ∷ words) i = option_and_then (with_operands operands words) (with_operand operand word i)

-- ---- Statements

abbrev pub or_bad : {A : Type 0} → Sort → (A → Statement) → Option A → Statement
or_bad sort make None = statement.Bad sort
or_bad sort make (Some value) = make value

-- a directive and its one operand: bytes, a number, or an entry
abbrev pub directive_statement : Directive → List ℕ → Statement
directive_statement Meta word = or_bad (sort.Directive Meta) (statement.Bytes Meta) (hex_bytes word)
directive_statement Ro word = or_bad (sort.Directive Ro) (statement.Bytes Ro) (hex_bytes word)
directive_statement Rw word = or_bad (sort.Directive Rw) (statement.Bytes Rw) (hex_bytes word)
directive_statement Lead word = or_bad (sort.Directive Lead) (statement.Bytes Lead) (hex_bytes word)
directive_statement Heap word = or_bad (sort.Directive Heap) (statement.Number Heap) (numeral word)
directive_statement Stack word = or_bad (sort.Directive Stack) (statement.Number Stack) (numeral word)
directive_statement Width word = or_bad (sort.Directive Width) (statement.Number Width) (numeral word)
directive_statement Jumps word = or_bad (sort.Directive Jumps) (statement.Number Jumps) (numeral word)
directive_statement Jump word = or_bad (sort.Directive Jump) statement.Jump (entry_target word)

abbrev pub sorted_statement : Sort → List (List ℕ) → Statement
sorted_statement (sort.Header header) operands = if is_empty operands then statement.Header header else statement.Bad (sort.Header header)
sorted_statement (sort.Directive directive) operands = directive_statement directive (only_operand operands)
sorted_statement sort.Unit operands = or_bad sort.Unit statement.Unit (hex_bytes (only_operand operands))

abbrev pub instruction_statement : Op → List (List ℕ) → Statement
instruction_statement op operands = or_bad sort.Unit statement.Instruction (with_operands (form_operands (form_of op)) operands (bare op))

-- an instruction, or a name that nothing has
abbrev pub op_statement : Option Op → List (List ℕ) → Statement
op_statement None operands = statement.Unknown
op_statement (Some op) operands = instruction_statement op operands

abbrev pub named_statement : Option Sort → List ℕ → List (List ℕ) → Statement
named_statement None name operands = op_statement (op_with_name name) operands
named_statement (Some sort) name operands = sorted_statement sort operands

-- a name and its operands, or nothing
abbrev pub statement_in : List ℕ → Statement
statement_in text = if is_empty text then statement.Nothing else named_statement (sort_named (first_word text)) (first_word text) (operands_of (after_word text))

-- a line: a label, a statement, both, or nothing
abbrev pub read_line : List ℕ → Line
read_line line =
    let text : List ℕ = unpadded (uncommented line) in
    let first : List ℕ = first_word text in
    if is_label_mark first then record { label = Some (take (length first - 1) first); statement = statement_in (unpadded (after_word text)) }
    else record { label = None; statement = statement_in text }
