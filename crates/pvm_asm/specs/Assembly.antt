-- The assembly of a text: its bytes, or the first line that is refused (this project's own).
use Rattle.std.specs.Prelude.{ℕ, ◌+◌, ◌-◌, ◌*◌, ◌%◌, ◌^◌, Bool, true, false, not, ◌||◌, ◌&&◌, ◌==◌, nat_lt, nat_le, List, [], ◌∷◌, ◌++◌, length, map, replicate, if◌then◌else◌, Option, Some, None, is_some, Result, Ok, Err}
use Rattle.std.specs.Option.{unwrap_or, option_map}
use Rattle.byte_numbers.specs.Numbers.{little_endian}
use Rattle.jam_codec.specs.Spelling.{natural, packed}
use Rattle.pvm_isa.specs.declared.form.Form.{Form}
use Rattle.pvm_isa.specs.declared.form.Form.TheVariants.{F1, F2, F3, F4, F5, F6, F7, F8, F9, F10, F11, F12, F13}
use Rattle.pvm_isa.specs.Opcodes.{number_of, form_of}
use Rattle.pvm_asm.specs.Words.{lines_of}
use Rattle.pvm_asm.specs.Numbers.{holds, least_bytes, is_up_to, is_wide, word_of}
use Rattle.pvm_asm.specs.Statements.{read_line}
use Rattle.pvm_asm.specs.Labels.{Labels, no_labels, place_of_label, with_label}
use Rattle.pvm_asm.specs.declared.kind.AsmKind.{AsmKind}
use Rattle.pvm_asm.specs.declared.kind.AsmKind.TheVariants.{MissingHeader, UnknownName, Misplaced, BadOperands, OutOfRange, DoubleLabel, UnknownLabel}
use Rattle.pvm_asm.specs.declared.numeral.Numeral.{Numeral}
use Rattle.pvm_asm.specs.declared.instruction.Target.{Target}
use Rattle.pvm_asm.specs.declared.instruction.Target.TheVariants.{Absent, Label, Place, Offset}
use Rattle.pvm_asm.specs.declared.instruction.Instruction.{Instruction}
use Rattle.pvm_asm.specs.declared.keyword.Header.{Header}
use Rattle.pvm_asm.specs.declared.keyword.Header.TheVariants.{Raw, Standard, Code}
use Rattle.pvm_asm.specs.declared.keyword.Directive.{Directive}
use Rattle.pvm_asm.specs.declared.keyword.Directive.TheVariants.{Meta, Ro, Rw, Heap, Stack, Width, Jump, Jumps, Lead}
use Rattle.pvm_asm.specs.declared.keyword.Sort.{Sort}
use Rattle.pvm_asm.specs.declared.keyword.Sort.TheVariants as sort
use Rattle.pvm_asm.specs.declared.line.Statement.{Statement}
use Rattle.pvm_asm.specs.declared.line.Statement.TheVariants as statement
use Rattle.pvm_asm.specs.declared.line.Line.{Line}
use Rattle.pvm_asm.specs.declared.given.Given.{Given}
use Rattle.pvm_asm.specs.declared.survey.Survey.{Survey}
use Rattle.pvm_asm.specs.Image.{Image}

-- ---- Bytes of units

-- an immediate in the least number of bytes that give it
abbrev pub immediate_bytes : Numeral → List ℕ
immediate_bytes x = little_endian (least_bytes x) (word_of x)

-- the immediate X: in form 3 it has 8 bytes
abbrev pub x_bytes : Form → Numeral → List ℕ
x_bytes F3 x = little_endian 8 (word_of x)
x_bytes _ x = immediate_bytes x

-- two registers, or a register and a length, in the low and the high half of a byte
abbrev pub halves : ℕ → ℕ → ℕ
halves low high = low % 16 + 16 * (high % 16)

-- what stands between the opcode and the immediates: registers in halves of bytes, the length of X where there are two immediates
abbrev pub between : Form → Instruction → List ℕ
between F1 i = []
between F2 i = []
between F3 i = i.a ∷ []
between F4 i = least_bytes i.x ∷ []
between F5 i = []
between F6 i = i.a ∷ []
between F7 i = (halves i.a (least_bytes i.x)) ∷ []
between F8 i = (halves i.a (least_bytes i.x)) ∷ []
between F9 i = (halves i.d i.a) ∷ []
between F10 i = (halves i.a i.b) ∷ []
between F11 i = (halves i.a i.b) ∷ []
between F12 i = (halves i.a i.b) ∷ least_bytes i.x ∷ []
between F13 i = (halves i.a i.b) ∷ i.d ∷ []

-- how far a place is from another, as a number of 64 bits
abbrev pub distance : ℕ → ℕ → ℕ
distance from to = (to % 2 ^ 64 + (2 ^ 64 - from)) % 2 ^ 64

-- a target seen from the instruction at a place: a place has 4 bytes, an offset the least number that give it
abbrev pub target_bytes : Labels → ℕ → Target → List ℕ
target_bytes labels place Absent = []
target_bytes labels place (Label name) = little_endian 4 (distance place (unwrap_or (place_of_label labels name) 0))
target_bytes labels place (Place n) = little_endian 4 (distance place n.size)
target_bytes labels place (Offset n) = immediate_bytes n

abbrev pub instruction_bytes : Labels → ℕ → Instruction → List ℕ
instruction_bytes labels place i =
    number_of i.op ∷ (between (form_of i.op) i ++ (x_bytes (form_of i.op) i.x ++ (immediate_bytes i.y ++ target_bytes labels place i.target)))

-- how many bytes a target has, wherever it stands
abbrev pub target_size : Target → ℕ
target_size Absent = 0
target_size (Label name) = 4
target_size (Place n) = 4
target_size (Offset n) = least_bytes n

abbrev pub x_size : Form → Numeral → ℕ
x_size F3 x = 8
x_size _ x = least_bytes x

abbrev pub instruction_size : Instruction → ℕ
instruction_size i = 1 + length (between (form_of i.op) i) + x_size (form_of i.op) i.x + least_bytes i.y + target_size i.target

-- ---- What the lines so far tell

abbrev pub sort_of : Statement → Option Sort
sort_of statement.Nothing = None
sort_of statement.Unknown = None
sort_of (statement.Bad sort) = Some sort
sort_of (statement.Header header) = Some (sort.Header header)
sort_of (statement.Bytes directive bytes) = Some (sort.Directive directive)
sort_of (statement.Number directive number) = Some (sort.Directive directive)
sort_of (statement.Jump target) = Some (sort.Directive Jump)
sort_of (statement.Unit bytes) = Some sort.Unit
sort_of (statement.Instruction instruction) = Some sort.Unit

abbrev pub is_statement : Statement → Bool
is_statement statement.Nothing = false
is_statement _ = true

abbrev pub is_bad : Statement → Bool
is_bad (statement.Bad sort) = true
is_bad _ = false

abbrev pub is_unknown : Statement → Bool
is_unknown statement.Unknown = true
is_unknown _ = false

abbrev pub header_of : Option Sort → Option Header
header_of (Some (sort.Header header)) = Some header
header_of _ = None

abbrev pub is_unit : Option Sort → Bool
is_unit (Some sort.Unit) = true
is_unit _ = false

-- whether a directive was given
abbrev pub is_given : Given → Directive → Bool
is_given g Meta = g.meta
is_given g Ro = g.ro
is_given g Rw = g.rw
is_given g Heap = g.heap
is_given g Stack = g.stack
is_given g Width = g.width
is_given g Jump = g.jump
is_given g Jumps = g.jumps
is_given g Lead = g.lead

abbrev pub with_given : Given → Directive → Given
with_given g Meta = record g { meta = true }
with_given g Ro = record g { ro = true }
with_given g Rw = record g { rw = true }
with_given g Heap = record g { heap = true }
with_given g Stack = record g { stack = true }
with_given g Width = record g { width = true }
with_given g Jump = record g { jump = true }
with_given g Jumps = record g { jumps = true }
with_given g Lead = record g { lead = true }

abbrev pub with_sort : Given → Option Sort → Given
with_sort g (Some (sort.Directive directive)) = with_given g directive
with_sort g _ = g

-- which directives a header allows
abbrev pub allows : Option Header → Directive → Bool
allows None directive = false
allows (Some Code) directive = true
allows (Some Standard) Meta = false
allows (Some Standard) _ = true
allows (Some Raw) Width = true
allows (Some Raw) Jump = true
allows (Some Raw) Jumps = true
allows (Some Raw) Lead = true
allows (Some Raw) _ = false

-- a directive has its like before it: only `.jump` may be repeated, and `.jump` and `.jumps` go not together
abbrev pub is_repeated : Given → Directive → Bool
is_repeated g Jump = g.jumps
is_repeated g Jumps = g.jumps || g.jump
is_repeated g directive = is_given g directive

-- a header stands first and has no label; a directive has none, stands after the header and before labels and units; no label stands before the header
abbrev pub is_misplaced : Survey → Bool → Option Sort → Bool
is_misplaced s labelled None = labelled && not s.started
is_misplaced s labelled (Some (sort.Header header)) = labelled || s.started
is_misplaced s labelled (Some (sort.Directive directive)) = labelled || (s.body || (is_repeated s.given directive || not (allows s.header directive)))
is_misplaced s labelled (Some sort.Unit) = false

-- the first four kinds are told by what stands before
abbrev pub early_kind : Survey → Line → Option AsmKind
early_kind s line =
    if is_statement line.statement && (not s.started && not (is_some (header_of (sort_of line.statement)))) then Some MissingHeader
    else if is_unknown line.statement then Some UnknownName
    else if is_misplaced s (is_some line.label) (sort_of line.statement) then Some Misplaced
    else if is_bad line.statement then Some BadOperands
    else None

-- an immediate fits: in form 3 X has 64 bits
abbrev pub x_fits : Form → Numeral → Bool
x_fits F3 x = is_wide x
x_fits _ x = holds 4 x

-- the immediates fit
abbrev pub immediates_fit : Instruction → Bool
immediates_fit i = x_fits (form_of i.op) i.x && holds 4 i.y

-- an offset fits in 4 bytes with its sign, and so does a place, as the offset from here
abbrev pub target_fits : ℕ → Target → Bool
target_fits place Absent = true
target_fits place (Label name) = true
target_fits place (Place n) = is_up_to (2 ^ 64 - 1) n && (nat_lt n.size (place + 2 ^ 31) && nat_le place (n.size + 2 ^ 31))
target_fits place (Offset n) = holds 4 n

abbrev pub instruction_fits : ℕ → Instruction → Bool
instruction_fits place i = immediates_fit i && target_fits place i.target

-- how many bytes of code a statement gives
abbrev pub statement_size : ℕ → Statement → ℕ
statement_size place (statement.Bytes Lead bytes) = length bytes
statement_size place (statement.Unit bytes) = length bytes
statement_size place (statement.Instruction i) = if instruction_fits place i then instruction_size i else 0
statement_size place _ = 0

-- a line that the first four kinds refuse gives none
abbrev pub line_size : Survey → Line → ℕ
line_size s line = if is_some (early_kind s line) then 0 else statement_size s.place line.statement

-- the width that a line sets
abbrev pub width_set : Statement → Option ℕ
width_set (statement.Number Width n) = if is_up_to 8 n then Some n.size else None
width_set _ = None

abbrev pub is_jump : Statement → Bool
is_jump (statement.Jump target) = true
is_jump _ = false

abbrev pub first_of : {A : Type 0} → Option A → Option A → Option A
first_of None second = second
first_of (Some x) second = Some x

abbrev pub label_kept : Labels → Option (List ℕ) → ℕ → Labels
label_kept labels None place = labels
label_kept labels (Some name) place = with_label labels name place

-- what is known before the first line
abbrev pub nothing_given : Given
nothing_given = record { meta = false; ro = false; rw = false; heap = false; stack = false; width = false; jump = false; jumps = false; lead = false }

abbrev pub unread : Survey
unread = record { header = None; started = false; body = false; given = nothing_given; width = None; jumps = false; place = 0; labels = no_labels }

-- what is known after one line more
abbrev pub after_line : Survey → Line → Survey
after_line s line = record {
  header = if s.started then s.header else header_of (sort_of line.statement);
  started = s.started || is_statement line.statement;
  body = s.body || (is_some line.label || is_unit (sort_of line.statement));
  given = with_sort s.given (sort_of line.statement);
  width = first_of s.width (if is_some (early_kind s line) then None else width_set line.statement);
  jumps = s.jumps || (not (is_some (early_kind s line)) && is_jump line.statement);
  place = s.place + line_size s line;
  labels = label_kept s.labels line.label s.place;
}

abbrev pub after_lines : Survey → List Line → Survey
after_lines s [] = s
after_lines s (line ∷ lines) = after_lines (after_line s line) lines

-- ---- What is refused

-- the width of an entry of the jump table
abbrev pub entry_width : Survey → ℕ
entry_width whole = unwrap_or whole.width (if whole.jumps then 4 else 0)

-- the most bytes of a directive; `.lead` has no bound
abbrev pub bytes_fit : Directive → List ℕ → Bool
bytes_fit Lead bytes = true
bytes_fit _ bytes = nat_lt (length bytes) (2 ^ 24)

-- the numbers of a directive
abbrev pub number_fits : ℕ → Directive → Numeral → Bool
number_fits width Heap n = is_up_to (2 ^ 16 - 1) n
number_fits width Stack n = is_up_to (2 ^ 24 - 1) n
number_fits width Width n = is_up_to 8 n
number_fits width Jumps n = is_up_to (2 ^ 64 - 1) n && width == 0
number_fits width _ n = true

-- an entry of the jump table fits its width. A label that is nowhere has no place to test
abbrev pub place_fits : ℕ → Option ℕ → Bool
place_fits width None = true
place_fits width (Some place) = nat_lt place (2 ^ (8 * width))

abbrev pub entry_fits : Survey → Target → Bool
entry_fits whole (Label name) = place_fits (entry_width whole) (place_of_label whole.labels name)
entry_fits whole (Place n) = is_up_to (2 ^ (8 * entry_width whole) - 1) n
entry_fits whole _ = true

abbrev pub statement_fits : Survey → ℕ → Statement → Bool
statement_fits whole place (statement.Bytes directive bytes) = bytes_fit directive bytes
statement_fits whole place (statement.Number directive n) = number_fits (entry_width whole) directive n
statement_fits whole place (statement.Jump target) = entry_fits whole target
statement_fits whole place (statement.Instruction i) = instruction_fits place i
statement_fits whole place _ = true

abbrev pub is_known : Labels → Target → Bool
is_known labels (Label name) = is_some (place_of_label labels name)
is_known labels _ = true

-- the labels that a statement names are there
abbrev pub knows_target : Labels → Statement → Bool
knows_target labels (statement.Jump target) = is_known labels target
knows_target labels (statement.Instruction i) = is_known labels i.target
knows_target labels _ = true

abbrev pub is_double : Labels → Option (List ℕ) → Bool
is_double labels None = false
is_double labels (Some name) = is_some (place_of_label labels name)

-- the last three kinds are told by the whole text
abbrev pub late_kind : Survey → Survey → Line → Option AsmKind
late_kind whole s line =
    if not (statement_fits whole s.place line.statement) then Some OutOfRange
    else if is_double s.labels line.label then Some DoubleLabel
    else if not (knows_target whole.labels line.statement) then Some UnknownLabel
    else None

-- why a line is refused: the first of the kinds that it has
abbrev pub kind_of : Survey → Survey → Line → Option AsmKind
kind_of whole s line = first_of (early_kind s line) (late_kind whole s line)

-- the first line that is refused, by its number, and why
abbrev pub refused_at : Survey → Survey → ℕ → Line → Option (ℕ × AsmKind) → Option (ℕ × AsmKind)
refused_at whole s number line later = first_of (option_map (λ kind. (number, kind)) (kind_of whole s line)) later

abbrev pub first_refused : Survey → Survey → ℕ → List Line → Option (ℕ × AsmKind)
first_refused whole s number [] = None
first_refused whole s number (line ∷ lines) = refused_at whole s number line (first_refused whole (after_line s line) (number + 1) lines)

-- ---- Bytes of the whole

abbrev pub no_image : Image
no_image = record { meta = []; ro = []; rw = []; heap = 0; stack = 0; entries = []; blanks = 0; code = []; mask = [] }

-- a unit's first byte has mask 1, its others 0
abbrev pub unit_mask : List ℕ → List Bool
unit_mask [] = []
unit_mask (byte ∷ more) = true ∷ replicate (length more) false

abbrev pub with_unit : Image → List ℕ → Image
with_unit p bytes = record p { code = p.code ++ bytes; mask = p.mask ++ unit_mask bytes }

abbrev pub with_jump : Image → ℕ → Image
with_jump p place = record p { entries = p.entries ++ place ∷ [] }

abbrev pub entry_place : Labels → Target → ℕ
entry_place labels (Label name) = unwrap_or (place_of_label labels name) 0
entry_place labels (Place n) = n.size
entry_place labels _ = 0

abbrev pub with_bytes : Image → Directive → List ℕ → Image
with_bytes p Meta bytes = record p { meta = bytes }
with_bytes p Ro bytes = record p { ro = bytes }
with_bytes p Rw bytes = record p { rw = bytes }
with_bytes p Lead bytes = record p { code = p.code ++ bytes; mask = p.mask ++ replicate (length bytes) false }
with_bytes p _ bytes = p

abbrev pub with_number : Image → Directive → ℕ → Image
with_number p Heap n = record p { heap = n }
with_number p Stack n = record p { stack = n }
with_number p Jumps n = record p { blanks = n }
with_number p _ n = p

-- the image with one statement more
abbrev pub with_statement : Survey → Image → Statement → Image
with_statement whole p (statement.Bytes directive bytes) = with_bytes p directive bytes
with_statement whole p (statement.Number directive n) = with_number p directive n.size
with_statement whole p (statement.Jump target) = with_jump p (entry_place whole.labels target)
with_statement whole p (statement.Unit bytes) = with_unit p bytes
with_statement whole p (statement.Instruction i) = with_unit p (instruction_bytes whole.labels (length p.code) i)
with_statement whole p _ = p

abbrev pub with_lines : Survey → Image → List Line → Image
with_lines whole p [] = p
with_lines whole p (line ∷ lines) = with_lines whole (with_statement whole p line.statement) lines

abbrev pub entry_count : Image → ℕ
entry_count p = if length p.entries == 0 then p.blanks else length p.entries

-- the entries of the jump table, so many bytes each
abbrev pub entry_bytes : ℕ → List ℕ → List ℕ
entry_bytes width [] = []
entry_bytes width (place ∷ places) = little_endian width place ++ entry_bytes width places

-- a program blob: n jumps, u1 their width, n bytes of code, the jumps, the code, its mask
abbrev pub raw_bytes : ℕ → Image → List ℕ
raw_bytes width p = natural (entry_count p) ++ (width ∷ (natural (length p.code) ++ (entry_bytes width p.entries ++ (p.code ++ packed p.mask))))

-- what stands in a standard program before its code: u3 |o|, u3 |w|, u2 z, u3 s, o, w
abbrev pub standard_front : Image → List ℕ
standard_front p = little_endian 3 (length p.ro) ++ (little_endian 3 (length p.rw) ++ (little_endian 2 p.heap ++ (little_endian 3 p.stack ++ (p.ro ++ p.rw))))

-- then u4 |c|, c
abbrev pub standard_bytes : ℕ → Image → List ℕ
standard_bytes width p = standard_front p ++ (little_endian 4 (length (raw_bytes width p)) ++ raw_bytes width p)

abbrev pub header_bytes : Option Header → ℕ → Image → List ℕ
header_bytes None width p = []
header_bytes (Some Raw) width p = raw_bytes width p
header_bytes (Some Standard) width p = standard_bytes width p
header_bytes (Some Code) width p = (natural (length p.meta) ++ p.meta) ++ standard_bytes width p

abbrev pub settled : Option (ℕ × AsmKind) → List ℕ → Result (List ℕ) (ℕ × AsmKind)
settled None bytes = Ok bytes
settled (Some refusal) bytes = Err refusal

abbrev pub read_lines : List ℕ → List Line
read_lines text = map read_line (lines_of text)

abbrev pub assembly_by : Survey → List Line → Result (List ℕ) (ℕ × AsmKind)
assembly_by whole lines =
    if whole.started then settled (first_refused whole unread 1 lines) (header_bytes whole.header (entry_width whole) (with_lines whole no_image lines))
    else Err (1, MissingHeader)

-- the bytes of a text, or the number of the first line that is refused, and why. Without a statement it is line 1
unfoldable pub assembly : List ℕ → Result (List ℕ) (ℕ × AsmKind)
assembly text = assembly_by (after_lines unread (read_lines text)) (read_lines text)
