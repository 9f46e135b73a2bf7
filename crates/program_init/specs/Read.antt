-- What the code reads of a standard program, before it looks into the code.
use Rattle.std.specs.Prelude.{ℕ, List, length, Result, Ok, Err}
use Rattle.jam_codec.specs.Reading.{Reading}
use Rattle.blob_decode.specs.Program.{Program}
use Rattle.program_init.specs.declared.head.Head as read_head
use Rattle.program_init.specs.declared.parts.Parts as read_parts
use Rattle.program_init.specs.Standard.{Standard, Head}

abbrev pub plain_head : read_head.Head → Head
plain_head h = (length h.read_only.now, (length h.writable.now, (h.heap_pages, (h.stack, (h.read_only.now, (h.writable.now, h.code_size))))))

-- what the parts of the code stand for
abbrev pub plain_parts : read_parts.Parts → Standard (List ℕ)
plain_parts p = record { read_only = p.ro.now; writable = p.rw.now; heap_pages = p.heap_pages; stack = p.stack; code = p.code.now }

-- a standard program with other code
abbrev pub standard_with : {Code Other : Type 0} → Standard Code → Other → Standard Other
standard_with s code = record { read_only = s.read_only; writable = s.writable; heap_pages = s.heap_pages; stack = s.stack; code = code }

-- the standard program of parts whose code, that begins at a place, is read so
abbrev pub coded : Standard (List ℕ) → ℕ → Reading → Result Program ℕ → Result (Standard Program × Reading) ℕ
coded parts place left (Ok program) = Ok (standard_with parts program, left)
coded parts place left (Err inner) = Err place
