-- The areas of a first memory (Gray Paper 0.7.0, appendix A.7).
use Rattle.std.specs.Prelude.{ℕ, ◌+◌, ◌-◌, ◌*◌, ◌/◌, ◌^◌, false, List, [], ◌∷◌, length}
use Rattle.std.specs.FinMap as fin
use Rattle.page_rights.specs.declared.rights.Rights.{Rights}
use Rattle.page_rights.specs.declared.rights.Rights.TheVariants as may
use Rattle.paged_memory.specs.PageMap.{Memory, set_pages, put_bytes}
use Rattle.program_init.specs.Standard.{Standard}

-- how many bytes the pages of 4,096 have that hold n bytes (P of the Gray Paper), and the zones of 65,536 (Z)
abbrev pub in_pages : ℕ → ℕ
in_pages n = (n + 4095) / 4096 * 4096

abbrev pub in_zones : ℕ → ℕ
in_zones n = (n + 65535) / 65536 * 65536

-- the address at which it begins, how many bytes it has, what may be done with them, and the first of them, before zeros
pub record Area : Type 0 where
  pub start : ℕ
  pub size : ℕ
  pub right : Rights
  pub bytes : List ℕ

abbrev pub area : ℕ → ℕ → Rights → List ℕ → Area
area start size right bytes = record { start = start; size = size; right = right; bytes = bytes }

-- where the area that may be written begins, and where the stack ends
abbrev pub writable_start : ℕ → ℕ
writable_start read_only = 2 * 2 ^ 16 + in_zones read_only

abbrev pub stack_end : ℕ
stack_end = 2 ^ 32 - 2 * 2 ^ 16 - 2 ^ 24

abbrev pub arguments_start : ℕ
arguments_start = 2 ^ 32 - 2 ^ 16 - 2 ^ 24

-- the areas of a standard program that is given arguments
abbrev pub areas : {Code : Type 0} → Standard Code → List ℕ → List Area
areas s args =
    area (2 ^ 16) (in_pages (length s.read_only)) may.Read s.read_only
    ∷ (area (writable_start (length s.read_only)) (in_pages (length s.writable) + 4096 * s.heap_pages) may.Write s.writable
    ∷ (area (stack_end - in_pages s.stack) (in_pages s.stack) may.Write []
    ∷ (area arguments_start (in_pages (length args)) may.Read args ∷ [])))

-- the memory with an area
abbrev pub with_area : Memory → Area → Memory
with_area m a = put_bytes (set_pages m (a.start / 4096) (a.size / 4096) a.right false) a.start a.bytes

-- with each of them
abbrev pub with_areas : Memory → List Area → Memory
with_areas m [] = m
with_areas m (a ∷ others) = with_areas (with_area m a) others

-- the memory of these areas and no others
abbrev pub first_memory : {Code : Type 0} → Standard Code → List ℕ → Memory
first_memory s args = with_areas fin.empty (areas s args)
