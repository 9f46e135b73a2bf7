-- Standard programs, and the bytes that spell them (Gray Paper 0.7.0, appendix A.7: what a program's first memory is made of).
use Rattle.std.specs.Prelude.{◌≡◌, ℕ, List, length, Result, Ok, Err}
use Rattle.jam_codec.specs.Reading.{Reading, ◌>>=◌}
use Rattle.jam_codec.specs.Format.{Format, field_where, both, by, fixed_where, bytes_where, any, whole}
use Rattle.blob_decode.specs.Program.{Program, program_blob}

-- the bytes that may only be read, those that may be written too, how many pages of heap there are at first, how many bytes of
-- stack, and the code
pub record Standard (Code : Type 0) : Type 0 where
  pub read_only : List ℕ
  pub writable : List ℕ
  pub heap_pages : ℕ
  pub stack : ℕ
  pub code : Code

-- ---- A value that stands alone in so many bytes

-- what is left is what follows those bytes; where they spell no value, the field is refused where it begins
abbrev pub alone : {A : Type 0} → ℕ → Reading → Result A ℕ → Result (A × Reading) ℕ
alone place left (Ok x) = Ok (x, left)
alone place left (Err inner) = Err place

abbrev pub enclosed_at : {A : Type 0} → Format A → ℕ → Reading → Result (A × Reading) ℕ
enclosed_at f n r = (bytes_where n any).read r >>= λ found. alone r.place found.1 (whole f found.0)

-- one field: n bytes that are the spelling of a value, and nothing more
abbrev pub enclosed : {A : Type 0} → Format A → ℕ → Format A
enclosed f n = field_where any (λ x. f.Fits x × (length (f.spell x) ≡ n)) f.spell (enclosed_at f n)

-- ---- The fields

abbrev pub Head : Type 0
Head = ℕ × (ℕ × (ℕ × (ℕ × (List ℕ × (List ℕ × ℕ)))))

-- all fields but the code: how many bytes may only be read, how many may be written, the pages of heap, the bytes of stack, the
-- bytes of both kinds, and how many bytes spell the code
abbrev pub head : Format Head
head = both (fixed_where 3 any) (λ read_only. both (fixed_where 3 any) (λ writable. both (fixed_where 2 any) (λ heap_pages.
    both (fixed_where 3 any) (λ stack. both (bytes_where read_only any) (λ bytes. both (bytes_where writable any) (λ more. fixed_where 4 any))))))

abbrev pub code_size : Head → ℕ
code_size h = h.1.1.1.1.1.1

abbrev pub with_code : {Code : Type 0} → Head → Code → Standard Code
with_code h code = record { read_only = h.1.1.1.1.0; writable = h.1.1.1.1.1.0; heap_pages = h.1.1.0; stack = h.1.1.1.0; code = code }

-- the head of a standard program whose code takes so many bytes
abbrev pub head_of : {Code : Type 0} → (Code → ℕ) → Standard Code → Head
head_of size s = (length s.read_only, (length s.writable, (s.heap_pages, (s.stack, (s.read_only, (s.writable, size s.code))))))

-- the head, and then the code in the format for so many bytes
abbrev pub standard_of : {Code : Type 0} → (Code → ℕ) → (ℕ → Format Code) → Format (Standard Code)
standard_of size code = by (λ p. with_code p.0 p.1) (λ s. (head_of size s, s.code)) (both head (λ h. code (code_size h)))

-- the code as bytes
abbrev pub outer : Format (Standard (List ℕ))
outer = standard_of length (λ n. bytes_where n any)

-- a standard program: its code is a program, which a blob spells
abbrev pub standard_program : Format (Standard Program)
standard_program = standard_of (λ program. length (program_blob.spell program)) (enclosed program_blob)
