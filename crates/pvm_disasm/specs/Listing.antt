-- The listing of a program: a text, of which the assembly is the program's blob (this project's own).
use Rattle.std.specs.Prelude.{ℕ, zero, suc, ◌+◌, Bool, List, [], ◌∷◌, ◌++◌, length, map, codes, decimal, if◌then◌else◌}
use Rattle.hex.specs.Hex.{encode_lower}
use Rattle.blob_decode.specs.Program.{Program}
use Rattle.pvm_disasm.specs.Units.{unit_line}

-- the bytes of a code before the first at which an instruction begins
unfoldable pub lead : List Bool → List ℕ → List ℕ
lead [] code = []
lead (mark ∷ mask) [] = []
lead (mark ∷ mask) (byte ∷ code) = if mark then [] else byte ∷ lead mask code

-- its units: one begins at each byte at which an instruction begins, and has the bytes up to the next
unfoldable pub code_units : List Bool → List ℕ → List (List ℕ)
code_units [] code = []
code_units (mark ∷ mask) [] = []
code_units (mark ∷ mask) (byte ∷ code) = if mark then (byte ∷ lead mask code) ∷ code_units mask code else code_units mask code

-- the entries of the jump table, of so many bytes each: a line each; or, where they have none, one line with their number
abbrev pub jump_line : ℕ → List ℕ
jump_line place = codes ".jump =" ++ decimal place

abbrev pub blank_jumps : List ℕ → List (List ℕ)
blank_jumps [] = []
blank_jumps (place ∷ places) = (codes ".jumps " ++ decimal (length (place ∷ places))) ∷ []

abbrev pub jump_lines : ℕ → List ℕ → List (List ℕ)
jump_lines zero places = blank_jumps places
jump_lines (suc width) places = map jump_line places

-- the bytes before the first unit, where there are any
abbrev pub lead_lines : List ℕ → List (List ℕ)
lead_lines [] = []
lead_lines (byte ∷ bytes) = (codes ".lead " ++ encode_lower (byte ∷ bytes)) ∷ []

-- a line for each unit, of which the first stands at a place
unfoldable pub unit_lines : ℕ → List (List ℕ) → List (List ℕ)
unit_lines place [] = []
unit_lines place (unit ∷ more) = unit_line place unit ∷ unit_lines (place + length unit) more

unfoldable pub program_lines : Program → List (List ℕ)
program_lines p =
    codes ".raw" ∷ ((codes ".width " ++ decimal p.width) ∷ (jump_lines p.width p.jumps
    ++ (lead_lines (lead p.mask p.code) ++ unit_lines (length (lead p.mask p.code)) (code_units p.mask p.code))))

-- a line feed after each line
unfoldable pub lines_text : List (List ℕ) → List ℕ
lines_text [] = []
lines_text (line ∷ lines) = line ++ (10 ∷ lines_text lines)

-- the listing
unfoldable pub listing : Program → List ℕ
listing p = lines_text (program_lines p)
