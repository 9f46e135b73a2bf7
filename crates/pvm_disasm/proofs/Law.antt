-- A listing is assembled to the bytes of its program.
use Rattle.std.proofs.Common.{◌≡◌, ◌<◌, ◌≤◌, ℕ, zero, suc, ◌+◌, ◌*◌, ◌^◌, Bool, true, false, List, [], ◌∷◌, ◌++◌, length, map, replicate, codes, decimal, Option, Some, Result, Ok, refl, sym, ap, ◌∙◌, subst, arith, append_assoc}
use Rattle.std.specs.List.{concat}
use Rattle.std.proofs.lemmas.List.{map-append}
use Rattle.std.proofs.Math.Nat.{pow-le-pow_right}
use Rattle.byte_numbers.specs.Numbers.{AreBytes}
use Rattle.hex.specs.Hex.{encode_lower}
use Rattle.jam_codec.specs.Format.{Spells}
use Rattle.blob_decode.specs.Program.{Program, program_blob}
use Rattle.pvm_asm.specs.Statements.{read_line}
use Rattle.pvm_asm.specs.Labels.{Labels}
use Rattle.pvm_asm.specs.Image.{Image}
use Rattle.pvm_asm.specs.Assembly.{instruction_bytes, instruction_size, unread, no_image, read_lines, after_lines, with_lines, header_bytes, settled, raw_bytes, assembly, assembly_by}
use Rattle.pvm_asm.specs.declared.kind.AsmKind.{AsmKind}
use Rattle.pvm_asm.specs.declared.instruction.Instruction.{Instruction}
use Rattle.pvm_asm.specs.declared.keyword.Header.TheVariants.{Raw}
use Rattle.pvm_asm.specs.declared.keyword.Directive.TheVariants.{Width}
use Rattle.pvm_asm.specs.declared.line.Statement.TheVariants as statement
use Rattle.pvm_asm.specs.declared.line.Line.{Line}
use Rattle.pvm_asm.specs.declared.given.Given.{Given}
use Rattle.pvm_asm.specs.declared.survey.Survey.{Survey}
use Rattle.pvm_disasm.specs.Listing.{lead, code_units, jump_line, jump_lines, lead_lines, unit_lines, program_lines, listing}
use Rattle.pvm_disasm.proofs.Digits.{plain, hex-is}
use Rattle.pvm_disasm.proofs.Plain.{IsPlain, plain-from_dense, plain-append, decimal-dense, hex-dense, unit-plain}
use Rattle.pvm_disasm.proofs.Splits.{ArePlain, ArePlain-append, lines-text}
use Rattle.pvm_disasm.proofs.Said.{unlabelled, reads-raw, reads-nothing, reads-width, reads-jump, reads-jumps, reads-lead}
use Rattle.pvm_disasm.proofs.Units.{unit-gives}
use Rattle.pvm_disasm.proofs.Moves.{Leads, leads-survey, leads-image, leads-all, leads-append, at, noted, image, AreEntries, jump, opened, raw-leads, width-leads, jumps-lead, blanks-lead, lead-leads, any_jump, GiveUnits, unit_marks, any_unit, units-lead, nothing-leads}
use Rattle.pvm_disasm.proofs.Spelled.{blob_of, entries-give, blanks-give, IsSpelled, is-spelled}
use Rattle.pvm_disasm.proofs.Walks.{code-is, mask-is, AreUnits, lead-are, units-are}

-- ---- The bytes of the lines

word-plain : (name : List ℕ) (n : ℕ) → IsPlain name → IsPlain (name ++ decimal n)
word-plain name n h = plain-append name (decimal n) h (plain-from_dense (decimal n) (decimal-dense n))

jumps-plain : (places : List ℕ) → ArePlain (map jump_line places)
jumps-plain [] = tt
jumps-plain (place ∷ places) = (word-plain (codes ".jump =") place refl, jumps-plain places)

table-plain : (width : ℕ) (places : List ℕ) → ArePlain (jump_lines width places)
table-plain zero [] = tt
table-plain zero (place ∷ places) = (word-plain (codes ".jumps ") (length (place ∷ places)) refl, tt)
table-plain (suc width) places = jumps-plain places

lead-plain : (bytes : List ℕ) → AreBytes bytes → ArePlain (lead_lines bytes)
lead-plain [] are = tt
lead-plain (b ∷ bytes) are =
    (plain-append (codes ".lead ") (encode_lower (b ∷ bytes)) refl (plain-from_dense (encode_lower (b ∷ bytes)) (hex-dense (b ∷ bytes) (encode_lower (b ∷ bytes)) (hex-is (b ∷ bytes) are))), tt)

units-plain : (place : ℕ) (us : List (List ℕ)) → AreUnits us → ArePlain (unit_lines place us)
unfolding unit_lines
units-plain place [] h = tt
units-plain place (unit ∷ us) h = (unit-plain place unit h.1, units-plain (place + length unit) us h.2)

-- ---- What they say

jumps-read : (places : List ℕ) → ((width : ℕ) × (width ≤ 8) × AreEntries width places) → map read_line (map jump_line places) ≡ map jump places
jumps-read [] h = refl
jumps-read (place ∷ places) h =
    let most : 2 ^ (8 * h.0) ≤ 2 ^ 64 = pow-le-pow_right {n = 2} (omega arith) {i = 8 * h.0} {j = 64} (omega (arith, h.1)) in
    ap (λ l. l ∷ map read_line (map jump_line places)) (reads-jump place (omega (arith, h.2.0)))
    ∙ ap (λ ls. jump place ∷ ls) (jumps-read places (h.0, h.1, h.2.1))

give-units : (place : ℕ) (us : List (List ℕ)) → AreUnits us → GiveUnits place (map read_line (unit_lines place us)) us
unfolding unit_lines
give-units place [] h = tt
give-units place (unit ∷ us) h = (unit-gives place unit h.1 h.0, give-units (place + length unit) us h.2)

-- ---- Where the lines lead

-- what the lines of the jump table lead to, and the bytes that it gives with any code
record IsTable (width : ℕ) (jumps : List ℕ) (lines : List Line) : Type 0 where
  first : Bool
  second : Bool
  third : Bool
  entries : List ℕ
  blanks : ℕ
  leads : (body : Bool) (given : Given) (j : Bool) (size : ℕ)
      → Leads (at body given width j size) (at false (noted false false false) width false 0) no_image lines (at false (noted first second false) width third 0) (image entries blanks [] [])
  bytes : (code : List ℕ) (mask : List Bool) → raw_bytes width (image entries blanks code mask) ≡ blob_of width jumps code mask

table-is : (width : ℕ) (jumps : List ℕ) → width ≤ 8 → length jumps < 2 ^ 64 → AreEntries width jumps → IsTable width jumps (map read_line (jump_lines width jumps))
table-is zero [] narrow count entries = record {
  first = false;
  second = false;
  third = false;
  entries = [];
  blanks = 0;
  leads = λ body given j size. (refl, refl);
  bytes = λ code mask. blanks-give [] code mask;
}
table-is zero (place ∷ places) narrow count entries = record {
  first = false;
  second = true;
  third = false;
  entries = [];
  blanks = length (place ∷ places);
  leads = λ body given j size.
      subst (λ l. Leads (at body given 0 j size) (at false (noted false false false) 0 false 0) no_image (l ∷ []) (at false (noted false true false) 0 false 0) (image [] (length (place ∷ places)) [] []))
      (sym (reads-jumps (length (place ∷ places)) count)) (blanks-lead body given j size (length (place ∷ places)) count);
  bytes = λ code mask. blanks-give (place ∷ places) code mask;
}
table-is (suc width) jumps narrow count entries = record {
  first = any_jump false jumps;
  second = false;
  third = any_jump false jumps;
  entries = jumps;
  blanks = 0;
  leads = λ body given j size.
      subst (λ ls. Leads (at body given (suc width) j size) (at false (noted false false false) (suc width) false 0) no_image ls (at false (noted (any_jump false jumps) false false) (suc width) (any_jump false jumps) 0) (image jumps 0 [] []))
      (sym (jumps-read jumps (suc width, narrow, entries))) (jumps-lead body given j size (suc width) false [] jumps entries);
  bytes = λ code mask. entries-give (suc width) jumps code mask;
}

-- whether there are bytes before the first unit
abbrev any_lead : List ℕ → Bool
any_lead [] = false
any_lead (b ∷ bytes) = true

lead-is : (whole : Survey) (first second third : Bool) (width : ℕ) (entries : List ℕ) (blanks : ℕ) (bytes : List ℕ) → AreBytes bytes
    → Leads whole (at false (noted first second false) width third 0) (image entries blanks [] []) (map read_line (lead_lines bytes))
    (at false (noted first second (any_lead bytes)) width third (length bytes)) (image entries blanks bytes (replicate (length bytes) false))
lead-is whole first second third width entries blanks [] are = (refl, refl)
lead-is whole first second third width entries blanks (b ∷ bytes) are =
    subst (λ l. Leads whole (at false (noted first second false) width third 0) (image entries blanks [] []) (l ∷ []) (at false (noted first second true) width third (length (b ∷ bytes))) (image entries blanks (b ∷ bytes) (replicate (length (b ∷ bytes)) false)))
    (sym (reads-lead (b ∷ bytes) are (omega arith))) (lead-leads whole first second width third entries blanks (b ∷ bytes))

-- lines that lead from the first survey to this one, and the assembly of them
assembled : (width : ℕ) (lines : List Line) (body : Bool) (given : Given) (j : Bool) (size : ℕ) (q : Image)
    → Leads (at body given width j size) unread no_image lines (at body given width j size) q → assembly_by (after_lines unread lines) lines ≡ Ok (raw_bytes width q)
assembled width lines body given j size q h =
    let whole : Survey = at body given width j size in
    ap (λ s. assembly_by s lines) (leads-survey whole unread no_image lines whole q h)
    ∙ ap (λ (o : Option (ℕ × AsmKind)). settled o (header_bytes (Some Raw) width (with_lines whole no_image lines))) (leads-all whole unread no_image lines whole q h 1)
    ∙ ap (λ p. Ok (raw_bytes width p)) (leads-image whole unread no_image lines whole q h)

module _ (sized : (labels : Labels) (place : ℕ) (i : Instruction) → length (instruction_bytes labels place i) ≡ instruction_size i) where
  all-lead : (width : ℕ) (jumps code : List ℕ) (mask : List Bool) → width ≤ 8 → length jumps < 2 ^ 64 → AreEntries width jumps → length mask ≡ length code → AreBytes code
      → assembly_by (after_lines unread (unlabelled (statement.Header Raw) ∷ (unlabelled (statement.Number Width (plain width))
      ∷ (map read_line (jump_lines width jumps) ++ (map read_line (lead_lines (lead mask code)) ++ (map read_line (unit_lines (length (lead mask code)) (code_units mask code)) ++ (unlabelled statement.Nothing ∷ [])))))))
      (unlabelled (statement.Header Raw) ∷ (unlabelled (statement.Number Width (plain width))
      ∷ (map read_line (jump_lines width jumps) ++ (map read_line (lead_lines (lead mask code)) ++ (map read_line (unit_lines (length (lead mask code)) (code_units mask code)) ++ (unlabelled statement.Nothing ∷ []))))))
      ≡ Ok (blob_of width jumps code mask)
  all-lead width jumps code mask narrow count entries masked are =
      let front : List ℕ = lead mask code in
      let us : List (List ℕ) = code_units mask code in
      let place : ℕ = length front in
      let table : IsTable width jumps (map read_line (jump_lines width jumps)) = table-is width jumps narrow count entries in
      let given : Given = noted table.first table.second (any_lead front) in
      let body : Bool = any_unit false us in
      let size : ℕ = place + length (concat us) in
      let whole : Survey = at body given width table.third size in
      let made : Image = image table.entries table.blanks (front ++ concat us) (replicate place false ++ unit_marks us) in
      let ending : Leads whole (at body given width table.third size) made (unlabelled statement.Nothing ∷ []) whole made = nothing-leads sized body given table.third size width body given table.third size made in
      let unit-part : Leads whole (at false given width table.third place) (image table.entries table.blanks front (replicate place false)) (map read_line (unit_lines place us)) whole made =
      units-lead sized body given table.third size width false given table.third place table.entries table.blanks front (replicate place false) (map read_line (unit_lines place us)) us refl (give-units place us (units-are mask code are)) in
      let front-part : Leads whole (at false (noted table.first table.second false) width table.third 0) (image table.entries table.blanks [] []) (map read_line (lead_lines front)) (at false given width table.third place) (image table.entries table.blanks front (replicate place false)) =
      lead-is whole table.first table.second table.third width table.entries table.blanks front (lead-are mask code are) in
      let table-lines : List Line = map read_line (jump_lines width jumps) in
      let front-lines : List Line = map read_line (lead_lines front) in
      let unit-lines : List Line = map read_line (unit_lines place us) in
      let last : List Line = unlabelled statement.Nothing ∷ [] in
      let no_code : Image = image table.entries table.blanks [] [] in
      let front_made : Image = image table.entries table.blanks front (replicate place false) in
      let units-end : Leads whole (at false given width table.third place) front_made (unit-lines ++ last) whole made =
      leads-append whole (at false given width table.third place) front_made unit-lines whole made last whole made unit-part ending in
      let code-end : Leads whole (at false (noted table.first table.second false) width table.third 0) no_code (front-lines ++ (unit-lines ++ last)) whole made =
      leads-append whole (at false (noted table.first table.second false) width table.third 0) no_code front-lines (at false given width table.third place) front_made (unit-lines ++ last) whole made front-part units-end in
      let table-end : Leads whole (at false (noted false false false) width false 0) no_image (table-lines ++ (front-lines ++ (unit-lines ++ last))) whole made =
      leads-append whole (at false (noted false false false) width false 0) no_image table-lines (at false (noted table.first table.second false) width table.third 0) no_code (front-lines ++ (unit-lines ++ last)) whole made
      (table.leads body given table.third size) code-end in
      let rest : List Line = table-lines ++ (front-lines ++ (unit-lines ++ last)) in
      let width-line : Line = unlabelled (statement.Number Width (plain width)) in
      let width-end : Leads whole opened no_image (width-line ∷ rest) whole made =
      leads-append whole opened no_image (width-line ∷ []) (at false (noted false false false) width false 0) no_image rest whole made (width-leads whole width narrow) table-end in
      let every : Leads whole unread no_image (unlabelled (statement.Header Raw) ∷ (width-line ∷ rest)) whole made =
      leads-append whole unread no_image (unlabelled (statement.Header Raw) ∷ []) opened no_image (width-line ∷ rest) whole made (raw-leads whole) width-end in
      assembled width (unlabelled (statement.Header Raw) ∷ (width-line ∷ rest)) body given table.third size made every
      ∙ ap Ok (table.bytes (front ++ concat us) (replicate place false ++ unit_marks us)
      ∙ ap (λ c. blob_of width jumps c (replicate place false ++ unit_marks us)) (sym (code-is mask code masked))
      ∙ ap (blob_of width jumps code) (sym (mask-is mask code masked)))

  lines-plain : (p : Program) → AreBytes p.code → ArePlain (program_lines p)
  unfolding program_lines
  lines-plain p are = (
    refl,
    (
      word-plain (codes ".width ") p.width refl,
      ArePlain-append (jump_lines p.width p.jumps) _ (table-plain p.width p.jumps)
          (ArePlain-append (lead_lines (lead p.mask p.code)) _ (lead-plain (lead p.mask p.code) (lead-are p.mask p.code are))
          (units-plain (length (lead p.mask p.code)) (code_units p.mask p.code) (units-are p.mask p.code are))),
    ),
  )

  lines-read : (p : Program) → p.width ≤ 8
      → map read_line (program_lines p ++ ([] ∷ [])) ≡ unlabelled (statement.Header Raw) ∷ (unlabelled (statement.Number Width (plain p.width))
      ∷ (map read_line (jump_lines p.width p.jumps) ++ (map read_line (lead_lines (lead p.mask p.code)) ++ (map read_line (unit_lines (length (lead p.mask p.code)) (code_units p.mask p.code)) ++ (unlabelled statement.Nothing ∷ [])))))
  unfolding program_lines
  lines-read p narrow =
      let table : List (List ℕ) = jump_lines p.width p.jumps in
      let front : List (List ℕ) = lead_lines (lead p.mask p.code) in
      let us : List (List ℕ) = unit_lines (length (lead p.mask p.code)) (code_units p.mask p.code) in
      let third : map read_line (us ++ ([] ∷ [])) ≡ map read_line us ++ (unlabelled statement.Nothing ∷ []) = map-append read_line us ([] ∷ []) ∙ ap (λ l. map read_line us ++ (l ∷ [])) reads-nothing in
      let second : map read_line ((front ++ us) ++ ([] ∷ [])) ≡ map read_line front ++ (map read_line us ++ (unlabelled statement.Nothing ∷ [])) =
      ap (map read_line) (append_assoc front us ([] ∷ [])) ∙ map-append read_line front (us ++ ([] ∷ [])) ∙ ap (λ t. map read_line front ++ t) third in
      let first : map read_line ((table ++ (front ++ us)) ++ ([] ∷ [])) ≡ map read_line table ++ (map read_line front ++ (map read_line us ++ (unlabelled statement.Nothing ∷ []))) =
      ap (map read_line) (append_assoc table (front ++ us) ([] ∷ [])) ∙ map-append read_line table ((front ++ us) ++ ([] ∷ [])) ∙ ap (λ t. map read_line table ++ t) second in
      ap (λ l. l ∷ (read_line (codes ".width " ++ decimal p.width) ∷ map read_line ((table ++ (front ++ us)) ++ ([] ∷ [])))) reads-raw
      ∙ ap (λ l. unlabelled (statement.Header Raw) ∷ (l ∷ map read_line ((table ++ (front ++ us)) ++ ([] ∷ [])))) (reads-width p.width (omega arith))
      ∙ ap (λ ls. unlabelled (statement.Header Raw) ∷ (unlabelled (statement.Number Width (plain p.width)) ∷ ls)) first

  pub listing-assembles : (p : Program) (bytes : List ℕ) → AreBytes bytes → Spells program_blob p bytes → assembly (listing p) ≡ Ok bytes
  unfolding assembly listing
  listing-assembles p bytes are h =
      let s : IsSpelled p bytes = is-spelled p bytes are h in
      let by : List Line → Result (List ℕ) (ℕ × AsmKind) = λ (lines : List Line). assembly_by (after_lines unread lines) lines in
      let split : read_lines (listing p) ≡ map read_line (program_lines p ++ ([] ∷ [])) = ap (map read_line) (lines-text (program_lines p) (lines-plain p s.code)) in
      ap by (split ∙ lines-read p s.narrow)
      ∙ all-lead p.width p.jumps p.code p.mask s.narrow s.count s.entries s.masked s.code
      ∙ ap Ok (sym s.blob)
