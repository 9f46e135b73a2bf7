-- What the lines of a listing say.
use Rattle.std.proofs.Common.{◌≡◌, ◌<◌, ◌≤◌, ℕ, suc, ◌+◌, ◌-◌, ◌^◌, Bool, true, false, not, ◌==◌, nat_le, List, [], ◌∷◌, ◌++◌, length, take, drop, map, codes, decimal, Option, Some, None, option_map, if◌then◌else◌, refl, sym, ap, ◌∙◌, arith, append_assoc}
use Rattle.std.specs.List.{list_all, prefix_len, position_or_len}
use Rattle.std.proofs.lemmas.Bool.{and_parts, and_from, cond-false, leb-true, ne_eqb}
use Rattle.std.proofs.lemmas.List.{take_all, take_at, drop_at, drop_all}
use Rattle.byte_numbers.specs.Numbers.{AreBytes}
use Rattle.hex.specs.Hex.{encode_lower}
use Rattle.pvm_isa.specs.declared.op.Op.{Op}
use Rattle.pvm_asm.specs.Words.{pieces, begun_by, uncommented, is_blank, unpadded, first_word, after_word, is_empty, only_word, operands_of, is_label_mark}
use Rattle.pvm_asm.specs.Statements.{sort_named, named_statement, statement_in, read_line, or_bad}
use Rattle.pvm_asm.specs.declared.numeral.Numeral.{Numeral}
use Rattle.pvm_asm.specs.declared.instruction.Target.TheVariants as target
use Rattle.pvm_asm.specs.declared.keyword.Header.TheVariants.{Raw}
use Rattle.pvm_asm.specs.declared.keyword.Directive.TheVariants.{Width, Jump, Jumps, Lead}
use Rattle.pvm_asm.specs.declared.keyword.Sort.TheVariants as sort
use Rattle.pvm_asm.specs.declared.line.Statement.{Statement}
use Rattle.pvm_asm.specs.declared.line.Statement.TheVariants as statement
use Rattle.pvm_asm.specs.declared.line.Line.{Line}
use Rattle.pvm_disasm.specs.Listing.{jump_line}
use Rattle.pvm_disasm.specs.Units.{byte_line, op_text}
use Rattle.pvm_disasm.proofs.Lists.{all-weaker, all-append, prefix-whole, prefix-stops}
use Rattle.pvm_disasm.proofs.Digits.{plain, decimal-is, numeral-decimal, IsHex, hex-is, hex_bytes-is}
use Rattle.pvm_disasm.proofs.Plain.{IsDense, decimal-dense, hex-dense}

-- a line without a label
abbrev pub unlabelled : Statement → Line
unlabelled s = record { label = None; statement = s }

-- ---- Bytes of words

dense-is : (p : ℕ → Bool) → ((b : ℕ) → 45 ≤ b → p b ≡ true) → (xs : List ℕ) → IsDense xs → list_all p xs ≡ true
dense-is p w xs h = all-weaker (nat_le 45) p (λ b e. w b (leb-true 45 b e)) xs h

no-blank : (b : ℕ) → 45 ≤ b → is_blank b ≡ false
no-blank b h =
    let first : (b == 32) ≡ false = ne_eqb b 32 (λ e. absurd (omega (arith, e))) in
    let second : (b == 9) ≡ false = ne_eqb b 9 (λ e. absurd (omega (arith, e))) in
    rw (first, second) refl

no-mark : (m b : ℕ) → m < 45 → 45 ≤ b → (not (b == m)) ≡ true
no-mark m b low h = let other : (b == m) ≡ false = ne_eqb b m (λ e. absurd (omega (arith, e))) in rw other refl

words : (xs : List ℕ) → IsDense xs → list_all (λ b. not (is_blank b)) xs ≡ true
words xs h = dense-is (λ b. not (is_blank b)) (λ b low. ap not (no-blank b low)) xs h

pub unmarked : (m : ℕ) → m < 45 → (xs : List ℕ) → IsDense xs → list_all (λ b. not (b == m)) xs ≡ true
unmarked m low xs h = dense-is (λ b. not (b == m)) (λ b high. no-mark m b low high) xs h

-- ---- Words

-- no blank stands before a byte that is none
pub unpadded-word : (b : ℕ) (bs : List ℕ) → nat_le 45 b ≡ true → unpadded (b ∷ bs) ≡ b ∷ bs
unpadded-word b bs h =
    let here : is_blank b ≡ false = no-blank b (leb-true 45 b h) in
    ap (λ k. drop k (b ∷ bs)) (cond-false (not (not (is_blank b))) (1 + prefix_len (λ x. not (not (is_blank x))) bs) 0 (ap (λ t. not (not t)) here))

unpadded-blank : (bs : List ℕ) → unpadded (32 ∷ bs) ≡ unpadded bs
unpadded-blank bs =
    let k : ℕ = position_or_len (λ b. not (is_blank b)) bs in
    let next : 1 + k ≡ suc k = omega arith in
    ap (λ n. drop n (32 ∷ bs)) next

-- the word before a blank
pub first-before : (word rest : List ℕ) → IsDense word → first_word (word ++ (32 ∷ rest)) ≡ word
first-before word rest h =
    ap (λ k. take k (word ++ (32 ∷ rest))) (prefix-stops (λ b. not (is_blank b)) word 32 rest (words word h) refl) ∙ take_at word (32 ∷ rest) (length word) refl

pub after-before : (word rest : List ℕ) → IsDense word → after_word (word ++ (32 ∷ rest)) ≡ 32 ∷ rest
after-before word rest h =
    ap (λ k. drop k (word ++ (32 ∷ rest))) (prefix-stops (λ b. not (is_blank b)) word 32 rest (words word h) refl) ∙ drop_at word (32 ∷ rest) (length word) refl

pub first-whole : (word : List ℕ) → IsDense word → first_word word ≡ word
first-whole word h = ap (λ k. take k word) (prefix-whole (λ b. not (is_blank b)) word (words word h)) ∙ take_all (length word) word (omega arith)

pub after-whole : (word : List ℕ) → IsDense word → after_word word ≡ []
after-whole word h = ap (λ k. drop k word) (prefix-whole (λ b. not (is_blank b)) word (words word h)) ∙ drop_all (length word) word (omega arith)

-- where no mark stands, there is one piece
one-piece : (mark : ℕ) (xs : List ℕ) → list_all (λ b. not (b == mark)) xs ≡ true → pieces mark xs ≡ xs ∷ []
unfolding pieces
one-piece mark [] h = refl
one-piece mark (x ∷ xs) h =
    let parts = and_parts (not (x == mark)) (list_all (λ b. not (b == mark)) xs) h in
    let by : (t : Bool) → (not t) ≡ true → (if t then [] ∷ pieces mark xs else begun_by x (pieces mark xs)) ≡ (x ∷ xs) ∷ [] = λ t.
    elim t as (λ (t : Bool). (not t) ≡ true → (if t then [] ∷ pieces mark xs else begun_by x (pieces mark xs)) ≡ (x ∷ xs) ∷ []) [
      | true ↦ λ e. absurd (cc e)
      | false ↦ λ e. ap (begun_by x) (one-piece mark xs parts.1)
    ] in
    by (x == mark) parts.0

pub not-empty : (x : ℕ) (xs : List ℕ) → is_empty (x ∷ xs) ≡ false
not-empty x xs = ne_eqb (suc (length xs)) 0 (λ e. absurd (omega (arith, e)))

-- one operand: a word, alone or before a blank
record IsOperand (rest word : List ℕ) : Type 0 where
  unpadded_is : unpadded rest ≡ rest
  some : is_empty rest ≡ false
  one : pieces 44 rest ≡ rest ∷ []
  word_is : only_word rest ≡ word
  clean : list_all (λ b. not (b == 35)) rest ≡ true

alone : (word : List ℕ) → IsDense word → 0 < length word → IsOperand word word
alone [] h some = absurd (omega arith)
alone (w ∷ ws) h some =
    let parts = and_parts (nat_le 45 w) (list_all (nat_le 45) ws) h in
    let whole : unpadded (w ∷ ws) ≡ w ∷ ws = unpadded-word w ws parts.0 in
    let only_by : List ℕ → List ℕ = λ (t : List ℕ). if is_empty (unpadded (after_word t)) then first_word t else [] in
    record {
      unpadded_is = whole;
      some = not-empty w ws;
      one = one-piece 44 (w ∷ ws) (unmarked 44 (omega arith) (w ∷ ws) h);
      word_is = ap only_by whole
          ∙ ap (λ (t : List ℕ). if is_empty (unpadded t) then first_word (w ∷ ws) else []) (after-whole (w ∷ ws) h)
          ∙ first-whole (w ∷ ws) h;
      clean = unmarked 35 (omega arith) (w ∷ ws) h;
    }

padded : (word : List ℕ) → IsDense word → 0 < length word → IsOperand (word ++ (32 ∷ [])) word
padded [] h some = absurd (omega arith)
padded (w ∷ ws) h some =
    let parts = and_parts (nat_le 45 w) (list_all (nat_le 45) ws) h in
    let rest : List ℕ = (w ∷ ws) ++ (32 ∷ []) in
    let whole : unpadded rest ≡ rest = unpadded-word w (ws ++ (32 ∷ [])) parts.0 in
    let only_by : List ℕ → List ℕ = λ (t : List ℕ). if is_empty (unpadded (after_word t)) then first_word t else [] in
    record {
      unpadded_is = whole;
      some = not-empty w (ws ++ (32 ∷ []));
      one = one-piece 44 rest (all-append (λ b. not (b == 44)) (w ∷ ws) (32 ∷ []) (unmarked 44 (omega arith) (w ∷ ws) h) refl);
      word_is = ap only_by whole
          ∙ ap (λ (t : List ℕ). if is_empty (unpadded t) then first_word rest else []) (after-before (w ∷ ws) [] h)
          ∙ first-before (w ∷ ws) [] h;
      clean = all-append (λ b. not (b == 35)) (w ∷ ws) (32 ∷ []) (unmarked 35 (omega arith) (w ∷ ws) h) refl;
    }

operand-is : (rest word : List ℕ) → IsOperand rest word → operands_of (32 ∷ rest) ≡ word ∷ []
operand-is rest word o =
    let by : List ℕ → List (List ℕ) = λ (t : List ℕ). if is_empty t then [] else map only_word (pieces 44 t) in
    let bare : unpadded (32 ∷ rest) ≡ rest = unpadded-blank rest ∙ o.unpadded_is in
    ap by bare
    ∙ cond-false (is_empty rest) [] (map only_word (pieces 44 rest)) o.some
    ∙ ap (map only_word) o.one
    ∙ ap (λ w. w ∷ []) o.word_is

-- ---- Lines of a name and an operand

-- a name that a line can begin with
pub record IsName (name : List ℕ) : Type 0 where
  pub dense : IsDense name
  pub some : 0 < length name
  pub no_label : is_label_mark name ≡ false

named-is : (name rest word : List ℕ) → IsName name → IsOperand rest word → statement_in (name ++ (32 ∷ rest)) ≡ named_statement (sort_named name) name (word ∷ [])
named-is [] rest word n o = absurd (omega (arith, n.some))
named-is (c ∷ cs) rest word n o =
    let text : List ℕ = (c ∷ cs) ++ (32 ∷ rest) in
    cond-false (is_empty text) statement.Nothing (named_statement (sort_named (first_word text)) (first_word text) (operands_of (after_word text))) (not-empty c (cs ++ (32 ∷ rest)))
    ∙ ap (λ f. named_statement (sort_named f) f (operands_of (after_word text))) (first-before (c ∷ cs) rest n.dense)
    ∙ ap (λ t. named_statement (sort_named (c ∷ cs)) (c ∷ cs) (operands_of t)) (after-before (c ∷ cs) rest n.dense)
    ∙ ap (named_statement (sort_named (c ∷ cs)) (c ∷ cs)) (operand-is rest word o)

text-unpadded : (name rest : List ℕ) → IsName name → unpadded (name ++ (32 ∷ rest)) ≡ name ++ (32 ∷ rest)
text-unpadded [] rest n = absurd (omega (arith, n.some))
text-unpadded (c ∷ cs) rest n = unpadded-word c (cs ++ (32 ∷ rest)) (and_parts (nat_le 45 c) (list_all (nat_le 45) cs) n.dense).0

abbrev pub read_by : List ℕ → List ℕ → Line
read_by first text = if is_label_mark first then record { label = Some (take (length first - 1) first); statement = statement_in (unpadded (after_word text)) } else record { label = None; statement = statement_in text }

reads-name : (line name rest word : List ℕ) → IsName name → IsOperand rest word → uncommented line ≡ name ++ (32 ∷ rest)
    → read_line line ≡ unlabelled (named_statement (sort_named name) name (word ∷ []))
reads-name line name rest word n o e =
    let text : List ℕ = name ++ (32 ∷ rest) in
    let clean : unpadded (uncommented line) ≡ text = ap unpadded e ∙ text-unpadded name rest n in
    ap (λ t. read_by (first_word t) t) clean
    ∙ ap (λ f. read_by f text) (first-before name rest n.dense)
    ∙ cond-false (is_label_mark name) _ (unlabelled (statement_in text)) n.no_label
    ∙ ap unlabelled (named-is name rest word n o)

-- a line without `#`
uncommented-whole : (name rest word : List ℕ) → IsName name → IsOperand rest word → uncommented (name ++ (32 ∷ rest)) ≡ name ++ (32 ∷ rest)
uncommented-whole name rest word n o =
    let text : List ℕ = name ++ (32 ∷ rest) in
    let clean : list_all (λ b. not (b == 35)) text ≡ true = all-append (λ b. not (b == 35)) name (32 ∷ rest) (unmarked 35 (omega arith) name n.dense) (and_from true (list_all (λ b. not (b == 35)) rest) refl o.clean) in
    ap (λ k. take k text) (prefix-whole (λ b. not (b == 35)) text clean) ∙ take_all (length text) text (omega arith)

-- the same before `#`
uncommented-before : (name rest word more : List ℕ) → IsName name → IsOperand rest word → uncommented ((name ++ (32 ∷ rest)) ++ (35 ∷ more)) ≡ name ++ (32 ∷ rest)
uncommented-before name rest word more n o =
    let text : List ℕ = name ++ (32 ∷ rest) in
    let clean : list_all (λ b. not (b == 35)) text ≡ true = all-append (λ b. not (b == 35)) name (32 ∷ rest) (unmarked 35 (omega arith) name n.dense) (and_from true (list_all (λ b. not (b == 35)) rest) refl o.clean) in
    ap (λ k. take k (text ++ (35 ∷ more))) (prefix-stops (λ b. not (b == 35)) text 35 more clean refl) ∙ take_at text (35 ∷ more) (length text) refl

reads-word : (name word : List ℕ) → IsName name → IsDense word → 0 < length word → read_line (name ++ (32 ∷ word)) ≡ unlabelled (named_statement (sort_named name) name (word ∷ []))
reads-word name word n h some =
    let o : IsOperand word word = alone word h some in
    reads-name (name ++ (32 ∷ word)) name word word n o (uncommented-whole name word word n o)

-- ---- The lines of a listing

width-name : IsName (codes ".width")
width-name = record { dense = refl; some = omega arith; no_label = refl }

jump-name : IsName (codes ".jump")
jump-name = record { dense = refl; some = omega arith; no_label = refl }

jumps-name : IsName (codes ".jumps")
jumps-name = record { dense = refl; some = omega arith; no_label = refl }

lead-name : IsName (codes ".lead")
lead-name = record { dense = refl; some = omega arith; no_label = refl }

unit-name : IsName (codes ".unit")
unit-name = record { dense = refl; some = omega arith; no_label = refl }

pub reads-raw : read_line (codes ".raw") ≡ unlabelled (statement.Header Raw)
unfolding sort_named pieces
reads-raw = refl

pub reads-nothing : read_line [] ≡ unlabelled statement.Nothing
reads-nothing = refl

decimal-some : (n : ℕ) → n < 2 ^ 64 → 0 < length (decimal n)
decimal-some n h = (decimal-is n h).some

pub reads-width : (n : ℕ) → n < 2 ^ 64 → read_line (codes ".width " ++ decimal n) ≡ unlabelled (statement.Number Width (plain n))
unfolding sort_named
reads-width n h = reads-word (codes ".width") (decimal n) width-name (decimal-dense n) (decimal-some n h)
    ∙ ap (λ (o : Option Numeral). unlabelled (or_bad (sort.Directive Width) (statement.Number Width) o)) (numeral-decimal n h)

pub reads-jumps : (n : ℕ) → n < 2 ^ 64 → read_line (codes ".jumps " ++ decimal n) ≡ unlabelled (statement.Number Jumps (plain n))
unfolding sort_named
reads-jumps n h = reads-word (codes ".jumps") (decimal n) jumps-name (decimal-dense n) (decimal-some n h)
    ∙ ap (λ (o : Option Numeral). unlabelled (or_bad (sort.Directive Jumps) (statement.Number Jumps) o)) (numeral-decimal n h)

pub reads-jump : (n : ℕ) → n < 2 ^ 64 → read_line (jump_line n) ≡ unlabelled (statement.Jump (target.Place (plain n)))
unfolding sort_named
reads-jump n h = reads-word (codes ".jump") (61 ∷ decimal n) jump-name (and_from true (list_all (nat_le 45) (decimal n)) refl (decimal-dense n)) (omega arith)
    ∙ ap (λ (o : Option Numeral). unlabelled (or_bad (sort.Directive Jump) statement.Jump (option_map target.Place o))) (numeral-decimal n h)

hex-some : (bytes ds : List ℕ) → 0 < length bytes → IsHex bytes ds → 0 < length ds
hex-some bytes ds some h = omega (arith, h.size)

pub reads-lead : (bytes : List ℕ) → AreBytes bytes → 0 < length bytes → read_line (codes ".lead " ++ encode_lower bytes) ≡ unlabelled (statement.Bytes Lead bytes)
unfolding sort_named
reads-lead bytes are some =
    let h : IsHex bytes (encode_lower bytes) = hex-is bytes are in
    reads-word (codes ".lead") (encode_lower bytes) lead-name (hex-dense bytes (encode_lower bytes) h) (hex-some bytes (encode_lower bytes) some h)
    ∙ ap (λ (o : Option (List ℕ)). unlabelled (or_bad (sort.Directive Lead) (statement.Bytes Lead) o)) (hex_bytes-is bytes (encode_lower bytes) some h)

pub reads-unit : (bytes : List ℕ) (op : Option Op) → AreBytes bytes → 0 < length bytes → read_line (byte_line bytes op) ≡ unlabelled (statement.Unit bytes)
unfolding sort_named
reads-unit bytes op are some =
    let h : IsHex bytes (encode_lower bytes) = hex-is bytes are in
    let digits : List ℕ = encode_lower bytes in
    let more : List ℕ = 32 ∷ op_text op in
    let o : IsOperand (digits ++ (32 ∷ [])) digits = padded digits (hex-dense bytes digits h) (hex-some bytes digits some h) in
    let line : byte_line bytes op ≡ (codes ".unit" ++ (32 ∷ (digits ++ (32 ∷ [])))) ++ (35 ∷ more) = ap (λ t. codes ".unit " ++ t) (sym (append_assoc digits (32 ∷ []) (35 ∷ more))) in
    reads-name (byte_line bytes op) (codes ".unit") (digits ++ (32 ∷ [])) digits unit-name o (ap uncommented line ∙ uncommented-before (codes ".unit") (digits ++ (32 ∷ [])) digits more unit-name o)
    ∙ ap (λ (o : Option (List ℕ)). unlabelled (or_bad sort.Unit statement.Unit o)) (hex_bytes-is bytes digits some h)
