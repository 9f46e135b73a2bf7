-- The lines of a text, the words of a line and the operands of a statement (this project's own).
use Rattle.std.specs.Prelude.{ℕ, ◌-◌, Bool, not, ◌||◌, ◌&&◌, ◌==◌, nat_lt, nat_le, List, [], ◌∷◌, length, take, drop, get_or, map, if◌then◌else◌}
use Rattle.std.specs.List.{position_or_len, list_all}

-- the first piece begins with one more byte
abbrev pub begun_by : ℕ → List (List ℕ) → List (List ℕ)
begun_by b [] = []
begun_by b (piece ∷ more) = (b ∷ piece) ∷ more

-- the bytes between those that are `mark`
unfoldable pub pieces : ℕ → List ℕ → List (List ℕ)
pieces mark [] = [] ∷ []
pieces mark (b ∷ bs) = if b == mark then [] ∷ pieces mark bs else begun_by b (pieces mark bs)

-- a line without the carriage return before its line feed
abbrev pub without_return : List ℕ → List ℕ
without_return line = if nat_lt 0 (length line) && get_or line (length line - 1) 0 == 13 then take (length line - 1) line else line

-- a line feed ends each of the pieces but the last
abbrev pub ended_lines : List (List ℕ) → List (List ℕ)
ended_lines [] = []
ended_lines (line ∷ []) = line ∷ []
ended_lines (line ∷ (next ∷ more)) = without_return line ∷ ended_lines (next ∷ more)

-- the lines of a text
abbrev pub lines_of : List ℕ → List (List ℕ)
lines_of text = ended_lines (pieces 10 text)

-- `#` begins a comment
abbrev pub uncommented : List ℕ → List ℕ
uncommented line = take (position_or_len (λ b. b == 35) line) line

-- blanks and tabs separate words
abbrev pub is_blank : ℕ → Bool
is_blank b = b == 32 || b == 9

-- the bytes from the first that is no blank on
abbrev pub unpadded : List ℕ → List ℕ
unpadded bytes = drop (position_or_len (λ b. not (is_blank b)) bytes) bytes

-- the word at the front, and what stands after it
abbrev pub first_word : List ℕ → List ℕ
first_word bytes = take (position_or_len is_blank bytes) bytes

abbrev pub after_word : List ℕ → List ℕ
after_word bytes = drop (position_or_len is_blank bytes) bytes

abbrev pub is_empty : {A : Type 0} → List A → Bool
is_empty xs = length xs == 0

-- the one word of some bytes; no byte where they have none, or more than one
abbrev pub only_word : List ℕ → List ℕ
only_word bytes = if is_empty (unpadded (after_word (unpadded bytes))) then first_word (unpadded bytes) else []

-- the operands of a statement: one comma stands between two of them, and each is one word; else it is no byte, and so no operand at all
abbrev pub operands_of : List ℕ → List (List ℕ)
operands_of bytes = if is_empty (unpadded bytes) then [] else map only_word (pieces 44 (unpadded bytes))

-- the one operand of a statement; no byte where there are none, or several
abbrev pub only_operand : List (List ℕ) → List ℕ
only_operand [] = []
only_operand (operand ∷ []) = operand
only_operand (operand ∷ (next ∷ more)) = []

abbrev pub is_letter : ℕ → Bool
is_letter b = (nat_le 65 b && nat_le b 90) || (nat_le 97 b && nat_le b 122)

abbrev pub is_label_byte : ℕ → Bool
is_label_byte b = is_letter b || (nat_le 48 b && nat_le b 57) || b == 95

-- letters, digits and `_`, of which the first is a letter
abbrev pub is_label : List ℕ → Bool
is_label word = is_letter (get_or word 0 0) && list_all is_label_byte word

-- a label and a colon
abbrev pub is_label_mark : List ℕ → Bool
is_label_mark word = nat_lt 0 (length word) && get_or word (length word - 1) 0 == 58 && is_label (take (length word - 1) word)
