-- What lines tell and give, one after another.
use Rattle.std.proofs.Common.{◌≡◌, ◌<◌, ◌≤◌, ℕ, ◌+◌, ◌-◌, ◌*◌, ◌^◌, Bool, true, false, not, ◌&&◌, ◌||◌, ◌==◌, nat_le, List, [], ◌∷◌, ◌++◌, length, map, replicate, if◌then◌else◌, Option, Some, None, option_map, refl, sym, ap, ◌∙◌, subst, arith, length-append, append_assoc, append-nil}
use Rattle.std.specs.List.{concat}
use Rattle.std.proofs.lemmas.Bool.{cond-true, le-leb, and_from, or_right}
use Rattle.pvm_asm.specs.Numbers.{is_up_to}
use Rattle.pvm_asm.specs.Labels.{Labels, no_labels}
use Rattle.pvm_asm.specs.Image.{Image}
use Rattle.pvm_asm.specs.Assembly.{instruction_bytes, instruction_size, instruction_fits, is_known, kind_of, after_line, after_lines, first_of, first_refused, refused_at, with_statement, with_lines, with_unit, unit_mask, nothing_given, unread, no_image}
use Rattle.pvm_asm.specs.Alone.{line_code}
use Rattle.pvm_asm.specs.declared.kind.AsmKind.{AsmKind}
use Rattle.pvm_asm.specs.declared.kind.AsmKind.TheVariants.{OutOfRange, UnknownLabel}
use Rattle.pvm_asm.specs.declared.instruction.Instruction.{Instruction}
use Rattle.pvm_asm.specs.declared.instruction.Target.TheVariants as target
use Rattle.pvm_asm.specs.declared.keyword.Header.TheVariants.{Raw}
use Rattle.pvm_asm.specs.declared.keyword.Directive.TheVariants.{Width, Jumps, Lead}
use Rattle.pvm_asm.specs.declared.line.Statement.{Statement}
use Rattle.pvm_asm.specs.declared.line.Statement.TheVariants as statement
use Rattle.pvm_asm.specs.declared.line.Line.{Line}
use Rattle.pvm_asm.specs.declared.given.Given.{Given}
use Rattle.pvm_asm.specs.declared.survey.Survey.{Survey}
use Rattle.pvm_disasm.proofs.Digits.{plain}
use Rattle.pvm_disasm.proofs.Said.{unlabelled}

-- ---- Lines that are not refused

-- from a survey and an image, these lines lead to others, and none is refused
abbrev pub Leads : Survey → Survey → Image → List Line → Survey → Image → Type 0
Leads whole s p [] t q = (s ≡ t) × (p ≡ q)
Leads whole s p (line ∷ lines) t q = (kind_of whole s line ≡ None) × Leads whole (after_line s line) (with_statement whole p line.statement) lines t q

pub leads-survey : (whole s : Survey) (p : Image) (lines : List Line) (t : Survey) (q : Image) → Leads whole s p lines t q → after_lines s lines ≡ t
leads-survey whole s p [] t q h = h.0
leads-survey whole s p (line ∷ lines) t q h = leads-survey whole (after_line s line) (with_statement whole p line.statement) lines t q h.1

pub leads-image : (whole s : Survey) (p : Image) (lines : List Line) (t : Survey) (q : Image) → Leads whole s p lines t q → with_lines whole p lines ≡ q
leads-image whole s p [] t q h = h.1
leads-image whole s p (line ∷ lines) t q h = leads-image whole (after_line s line) (with_statement whole p line.statement) lines t q h.1

none-refused : (whole s : Survey) (n : ℕ) (line : Line) (later : Option (ℕ × AsmKind)) → kind_of whole s line ≡ None → later ≡ None → refused_at whole s n line later ≡ None
none-refused whole s n line later h k =
    ap (λ (kind : Option AsmKind). first_of (option_map (λ kind. (n, kind)) kind) later) h ∙ k

pub leads-all : (whole s : Survey) (p : Image) (lines : List Line) (t : Survey) (q : Image) → Leads whole s p lines t q → (n : ℕ) → first_refused whole s n lines ≡ None
leads-all whole s p [] t q h n = refl
leads-all whole s p (line ∷ lines) t q h n =
    none-refused whole s n line (first_refused whole (after_line s line) (n + 1) lines) h.0
    (leads-all whole (after_line s line) (with_statement whole p line.statement) lines t q h.1 (n + 1))

pub leads-append : (whole s : Survey) (p : Image) (xs : List Line) (t : Survey) (q : Image) (ys : List Line) (u : Survey) (r : Image)
    → Leads whole s p xs t q → Leads whole t q ys u r → Leads whole s p (xs ++ ys) u r
leads-append whole s p [] t q ys u r h k = subst (λ s. Leads whole s p ys u r) (sym h.0) (subst (λ p. Leads whole t p ys u r) (sym h.1) k)
leads-append whole s p (x ∷ xs) t q ys u r h k = (h.0, leads-append whole (after_line s x) (with_statement whole p x.statement) xs t q ys u r h.1 k)

-- ---- The surveys of a listing

-- after the header and the width
abbrev pub at : Bool → Given → ℕ → Bool → ℕ → Survey
at body given width jumps place =
    record { header = Some Raw; started = true; body = body; given = given; width = Some width; jumps = jumps; place = place; labels = no_labels }

-- the directives that were given
abbrev pub noted : Bool → Bool → Bool → Given
noted jump jumps lead = record { meta = false; ro = false; rw = false; heap = false; stack = false; width = true; jump = jump; jumps = jumps; lead = lead }

fits : (n most : ℕ) → n ≤ most → is_up_to most (plain n) ≡ true
fits n most h = and_from (nat_le n most) (n == 0 || true) (le-leb n most h) (or_right (n == 0) true refl)

kind-by : (a : Bool) → a ≡ true → (if not a then Some OutOfRange else None) ≡ None
kind-by true e = refl
kind-by false e = absurd (cc e)

-- ---- Directives

-- after the header
abbrev pub opened : Survey
opened = record { header = Some Raw; started = true; body = false; given = nothing_given; width = None; jumps = false; place = 0; labels = no_labels }

pub raw-leads : (whole : Survey) → Leads whole unread no_image (unlabelled (statement.Header Raw) ∷ []) opened no_image
raw-leads whole = (refl, (refl, refl))

width-set : (n : ℕ) → n ≤ 8 → (if is_up_to 8 (plain n) then Some n else None) ≡ Some n
width-set n h = cond-true (is_up_to 8 (plain n)) (Some n) None (fits n 8 h)

pub width-leads : (whole : Survey) (n : ℕ) → n ≤ 8
    → Leads whole opened no_image
    (unlabelled (statement.Number Width (plain n)) ∷ []) (at false (noted false false false) n false 0) no_image
width-leads whole n h = (
  kind-by (is_up_to 8 (plain n)) (fits n 8 h),
  (ap (λ (w : Option ℕ). record { header = Some Raw; started = true; body = false; given = noted false false false; width = w; jumps = false; place = 0; labels = no_labels }) (width-set n h), refl),
)

-- an image with these entries, this many entries without bytes, this code and these marks
abbrev pub image : List ℕ → ℕ → List ℕ → List Bool → Image
image entries blanks code mask = record { meta = []; ro = []; rw = []; heap = 0; stack = 0; entries = entries; blanks = blanks; code = code; mask = mask }

abbrev pub AreEntries : ℕ → List ℕ → Type 0
AreEntries width [] = Unit {0}
AreEntries width (place ∷ places) = (place < 2 ^ (8 * width)) × AreEntries width places

abbrev pub jump : ℕ → Line
jump place = unlabelled (statement.Jump (target.Place (plain place)))

abbrev pub any_jump : Bool → List ℕ → Bool
any_jump b [] = b
any_jump b (place ∷ places) = any_jump true places

jumped : (b : Bool) (width place : ℕ) → after_line (at false (noted b false false) width b 0) (jump place) ≡ at false (noted true false false) width true 0
jumped true width place = refl
jumped false width place = refl

jump-kind : (body : Bool) (given : Given) (jumps : Bool) (size width : ℕ) (b : Bool) (place : ℕ) → place < 2 ^ (8 * width)
    → kind_of (at body given width jumps size) (at false (noted b false false) width b 0) (jump place) ≡ None
jump-kind body given jumps size width true place h = kind-by (is_up_to (2 ^ (8 * width) - 1) (plain place)) (fits place (2 ^ (8 * width) - 1) (omega arith))
jump-kind body given jumps size width false place h = kind-by (is_up_to (2 ^ (8 * width) - 1) (plain place)) (fits place (2 ^ (8 * width) - 1) (omega arith))

pub jumps-lead : (body : Bool) (given : Given) (jumps : Bool) (size width : ℕ) (b : Bool) (entries places : List ℕ) → AreEntries width places
    → Leads (at body given width jumps size) (at false (noted b false false) width b 0) (image entries 0 [] []) (map jump places)
    (at false (noted (any_jump b places) false false) width (any_jump b places) 0) (image (entries ++ places) 0 [] [])
jumps-lead body given jumps size width b entries [] h = (refl, ap (λ es. image es 0 [] []) (sym (append-nil entries)))
jumps-lead body given jumps size width b entries (place ∷ places) h = (
  jump-kind body given jumps size width b place h.0,
  subst (λ s. Leads (at body given width jumps size) s (image (entries ++ (place ∷ [])) 0 [] []) (map jump places) (at false (noted (any_jump true places) false false) width (any_jump true places) 0) (image (entries ++ (place ∷ places)) 0 [] []))
      (sym (jumped b width place))
      (subst (λ es. Leads (at body given width jumps size) (at false (noted true false false) width true 0) (image (entries ++ (place ∷ [])) 0 [] []) (map jump places) (at false (noted (any_jump true places) false false) width (any_jump true places) 0) (image es 0 [] []))
      (append_assoc entries (place ∷ []) places)
      (jumps-lead body given jumps size width true (entries ++ (place ∷ [])) places h.1)),
)

pub blanks-lead : (body : Bool) (given : Given) (jumps : Bool) (size n : ℕ) → n < 2 ^ 64
    → Leads (at body given 0 jumps size) (at false (noted false false false) 0 false 0) no_image (unlabelled (statement.Number Jumps (plain n)) ∷ [])
    (at false (noted false true false) 0 false 0) (image [] n [] [])
blanks-lead body given jumps size n h = (
  kind-by (is_up_to (2 ^ 64 - 1) (plain n) && true) (and_from (is_up_to (2 ^ 64 - 1) (plain n)) true (fits n (2 ^ 64 - 1) (omega arith)) refl),
  (refl, refl),
)

pub lead-leads : (whole : Survey) (jump jumps : Bool) (width : ℕ) (b : Bool) (entries : List ℕ) (blanks : ℕ) (bytes : List ℕ)
    → Leads whole (at false (noted jump jumps false) width b 0) (image entries blanks [] []) (unlabelled (statement.Bytes Lead bytes) ∷ [])
    (at false (noted jump jumps true) width b (length bytes)) (image entries blanks bytes (replicate (length bytes) false))
lead-leads whole jump jumps width true entries blanks bytes = (refl, (ap (at false (noted jump jumps true) width true) (omega arith), refl))
lead-leads whole jump jumps width false entries blanks bytes = (refl, (ap (at false (noted jump jumps true) width false) (omega arith), refl))

-- ---- Units

-- lines that give units, of which the first stands at a place
abbrev pub GiveUnits : ℕ → List Line → List (List ℕ) → Type 0
GiveUnits place [] [] = Unit {0}
GiveUnits place [] (unit ∷ units) = ⊥
GiveUnits place (line ∷ lines) [] = ⊥
GiveUnits place (line ∷ lines) (unit ∷ units) = (line_code place line ≡ Some unit) × GiveUnits (place + length unit) lines units

-- the marks of units
abbrev pub unit_marks : List (List ℕ) → List Bool
unit_marks [] = []
unit_marks (unit ∷ units) = unit_mask unit ++ unit_marks units

record IsTaken (a b : Bool) (x y : List ℕ) : Type 0 where
  first : a ≡ true
  second : b ≡ true
  same : x ≡ y

taken : (a b : Bool) (x y : List ℕ) → (if a && b then Some x else None) ≡ Some y → IsTaken a b x y
taken true true x y h = record { first = refl; second = refl; same = cc }
taken true false x y h = absurd (cc h)
taken false true x y h = absurd (cc h)
taken false false x y h = absurd (cc h)

or-false : (b : Bool) → (b || false) ≡ b
or-false true = refl
or-false false = refl

or-true : (b : Bool) → (b || true) ≡ true
or-true true = refl
or-true false = refl

kinds-by : (a b : Bool) → a ≡ true → b ≡ true → (if not a then Some OutOfRange else (if not b then Some UnknownLabel else None)) ≡ None
kinds-by true true e f = refl
kinds-by true false e f = absurd (cc f)
kinds-by false b e f = absurd (cc e)

-- what a line of a unit does
record UnitStep (whole s : Survey) (p : Image) (line : Line) (unit : List ℕ) (t : Survey) : Type 0 where
  kind : kind_of whole s line ≡ None
  after : after_line s line ≡ t
  given : with_statement whole p line.statement ≡ with_unit p unit

joined : (body : Bool) (given : Given) (width : ℕ) (jumps : Bool) (place : ℕ) → at (body || true) given width (jumps || false) place ≡ at true given width jumps place
joined body given width jumps place = ap (λ b. at b given width (jumps || false) place) (or-true body) ∙ ap (λ j. at true given width j place) (or-false jumps)

abbrev pub any_unit : Bool → List (List ℕ) → Bool
any_unit b [] = b
any_unit b (unit ∷ units) = any_unit true units

module _ (sized : (labels : Labels) (place : ℕ) (i : Instruction) → length (instruction_bytes labels place i) ≡ instruction_size i)
    (wbody : Bool) (wgiven : Given) (wjumps : Bool) (wplace width : ℕ) where
  step : (body : Bool) (given : Given) (jumps : Bool) (place : ℕ) (p : Image) (label : Option (List ℕ)) (s : Statement) (unit : List ℕ) → length p.code ≡ place
      → line_code place (record { label = label; statement = s }) ≡ Some unit
      → UnitStep (at wbody wgiven width wjumps wplace) (at body given width jumps place) p (record { label = label; statement = s }) unit (at true given width jumps (place + length unit))
  step body given jumps place p (Some label) s unit here h = absurd (cc h)
  step body given jumps place p None (statement.Unit bytes) unit here h =
      let same : bytes ≡ unit = cc in
      record {
        kind = refl;
        after = joined body given width jumps (place + length bytes) ∙ ap (λ (b : List ℕ). at true given width jumps (place + length b)) same;
        given = ap (with_unit p) same;
      }
  step body given jumps place p None (statement.Instruction i) unit here h =
      let t : IsTaken (instruction_fits place i) (is_known no_labels i.target) (instruction_bytes no_labels place i) unit = taken (instruction_fits place i) (is_known no_labels i.target) (instruction_bytes no_labels place i) unit h in
      let size : (if instruction_fits place i then instruction_size i else 0) ≡ length unit = cond-true (instruction_fits place i) (instruction_size i) 0 t.first ∙ sym (sized no_labels place i) ∙ ap length t.same in
      record {
        kind = kinds-by (instruction_fits place i) (is_known no_labels i.target) t.first t.second;
        after = joined body given width jumps (place + (if instruction_fits place i then instruction_size i else 0)) ∙ ap (λ n. at true given width jumps (place + n)) size;
        given = ap (λ n. with_unit p (instruction_bytes no_labels n i)) here ∙ ap (with_unit p) t.same;
      }
  step body given jumps place p None statement.Nothing unit here h = absurd (cc h)
  step body given jumps place p None statement.Unknown unit here h = absurd (cc h)
  step body given jumps place p None (statement.Bad sort) unit here h = absurd (cc h)
  step body given jumps place p None (statement.Header header) unit here h = absurd (cc h)
  step body given jumps place p None (statement.Bytes directive bytes) unit here h = absurd (cc h)
  step body given jumps place p None (statement.Number directive number) unit here h = absurd (cc h)
  step body given jumps place p None (statement.Jump target) unit here h = absurd (cc h)

  pub units-lead : (body : Bool) (given : Given) (jumps : Bool) (place : ℕ) (entries : List ℕ) (blanks : ℕ) (code : List ℕ) (mask : List Bool) (lines : List Line) (units : List (List ℕ))
      → length code ≡ place → GiveUnits place lines units
      → Leads (at wbody wgiven width wjumps wplace) (at body given width jumps place) (image entries blanks code mask) lines
      (at (any_unit body units) given width jumps (place + length (concat units))) (image entries blanks (code ++ concat units) (mask ++ unit_marks units))
  units-lead body given jumps place entries blanks code mask [] [] here h =
      (ap (at body given width jumps) (omega arith), ap (λ c. image entries blanks c mask) (sym (append-nil code)) ∙ ap (image entries blanks (code ++ [])) (sym (append-nil mask)))
  units-lead body given jumps place entries blanks code mask [] (unit ∷ units) here h = absurd h
  units-lead body given jumps place entries blanks code mask (line ∷ lines) [] here h = absurd h
  units-lead body given jumps place entries blanks code mask (line ∷ lines) (unit ∷ units) here h =
      let one : UnitStep (at wbody wgiven width wjumps wplace) (at body given width jumps place) (image entries blanks code mask) line unit (at true given width jumps (place + length unit)) = step body given jumps place (image entries blanks code mask) line.label line.statement unit here h.0 in
      let next : length (code ++ unit) ≡ place + length unit = omega (arith, length-append code unit) in
      let more : Leads (at wbody wgiven width wjumps wplace) (at true given width jumps (place + length unit)) (image entries blanks (code ++ unit) (mask ++ unit_mask unit)) lines
      (at (any_unit true units) given width jumps (place + length unit + length (concat units))) (image entries blanks ((code ++ unit) ++ concat units) ((mask ++ unit_mask unit) ++ unit_marks units)) =
      units-lead true given jumps (place + length unit) entries blanks (code ++ unit) (mask ++ unit_mask unit) lines units next h.1 in
      let end : place + length unit + length (concat units) ≡ place + length (unit ++ concat units) = omega (arith, length-append unit (concat units)) in
      let moved : Leads (at wbody wgiven width wjumps wplace) (at true given width jumps (place + length unit)) (image entries blanks (code ++ unit) (mask ++ unit_mask unit)) lines
      (at (any_unit true units) given width jumps (place + length (unit ++ concat units))) (image entries blanks (code ++ (unit ++ concat units)) (mask ++ (unit_mask unit ++ unit_marks units))) =
      subst (λ n. Leads (at wbody wgiven width wjumps wplace) (at true given width jumps (place + length unit)) (image entries blanks (code ++ unit) (mask ++ unit_mask unit)) lines (at (any_unit true units) given width jumps n) (image entries blanks (code ++ (unit ++ concat units)) (mask ++ (unit_mask unit ++ unit_marks units)))) end
      (subst (λ c. Leads (at wbody wgiven width wjumps wplace) (at true given width jumps (place + length unit)) (image entries blanks (code ++ unit) (mask ++ unit_mask unit)) lines (at (any_unit true units) given width jumps (place + length unit + length (concat units))) (image entries blanks c (mask ++ (unit_mask unit ++ unit_marks units)))) (append_assoc code unit (concat units))
      (subst (λ m. Leads (at wbody wgiven width wjumps wplace) (at true given width jumps (place + length unit)) (image entries blanks (code ++ unit) (mask ++ unit_mask unit)) lines (at (any_unit true units) given width jumps (place + length unit + length (concat units))) (image entries blanks ((code ++ unit) ++ concat units) m)) (append_assoc mask (unit_mask unit) (unit_marks units)) more)) in (
        one.kind,
        subst (λ s. Leads (at wbody wgiven width wjumps wplace) s (with_statement (at wbody wgiven width wjumps wplace) (image entries blanks code mask) line.statement) lines (at (any_unit true units) given width jumps (place + length (unit ++ concat units))) (image entries blanks (code ++ (unit ++ concat units)) (mask ++ (unit_mask unit ++ unit_marks units)))) (sym one.after)
            (subst (λ p. Leads (at wbody wgiven width wjumps wplace) (at true given width jumps (place + length unit)) p lines (at (any_unit true units) given width jumps (place + length (unit ++ concat units))) (image entries blanks (code ++ (unit ++ concat units)) (mask ++ (unit_mask unit ++ unit_marks units)))) (sym one.given) moved),
      )

  -- the line after the last line feed
  pub nothing-leads : (body : Bool) (given : Given) (jumps : Bool) (place : ℕ) (p : Image)
      → Leads (at wbody wgiven width wjumps wplace) (at body given width jumps place) p (unlabelled statement.Nothing ∷ []) (at body given width jumps place) p
  nothing-leads body given jumps place p = (
    refl,
    (ap (λ b. at b given width (jumps || false) (place + 0)) (or-false body) ∙ ap (λ j. at body given width j (place + 0)) (or-false jumps) ∙ ap (at body given width jumps) (omega arith), refl),
  )
