-- The rights of the 2 ^ 20 pages (Gray Paper 0.7.0, section 4.6 and appendix A), as a list by the pages' numbers.
use Rattle.std.specs.Prelude.{ℕ, ◌+◌, ◌^◌, Bool, not, ◌&&◌, nat_le, nat_lt, List, ◌++◌, map, take, drop, replicate, slice_index_or, Option}
use Rattle.std.specs.List.{position_from}
use Rattle.page_rights.specs.declared.rights.Rights.{Rights}
use Rattle.page_rights.specs.declared.rights.Rights.TheVariants as may

-- rights rise from No over Read to Write
abbrev pub rank : Rights → ℕ
rank may.No = 0
rank may.Read = 1
rank may.Write = 2

abbrev pub reaches : Rights → Rights → Bool
reaches have need = nat_le (rank need) (rank have)

-- all pages without rights
unfoldable pub none_granted : List Rights
none_granted = replicate (2 ^ 20) may.No

-- the right of a page by its number; No past the end
abbrev pub right_of_page : List Rights → ℕ → Rights
right_of_page pages page = slice_index_or pages page may.No

-- the count pages from the first on
abbrev pub pages_in : List Rights → ℕ → ℕ → List Rights
pages_in pages first count = take count (drop first pages)

-- the pages where those of a range, from the first on, have the rights of a list, and the others stay
abbrev pub with_range : List Rights → ℕ → ℕ → List Rights → List Rights
with_range pages first count range = take first pages ++ range ++ drop (first + count) pages

-- the pages where count of them, from the first on, have these rights
abbrev pub granted : List Rights → ℕ → ℕ → Rights → List Rights
granted pages first count to = with_range pages first count (replicate count to)

-- what a page without rights is lifted to; others stay
abbrev pub lifted : Rights → Rights
lifted may.No = may.Write
lifted may.Read = may.Read
lifted may.Write = may.Write

-- the pages where count of them, from the first on, are lifted
abbrev pub lifted_range : List Rights → ℕ → ℕ → List Rights
lifted_range pages first count = with_range pages first count (map lifted (pages_in pages first count))

-- the lowest page of a range whose rights do not reach the least
abbrev pub lowest_below : List Rights → ℕ → ℕ → Rights → Option ℕ
lowest_below pages first count least = position_from (λ rights. not (reaches rights least)) first (pages_in pages first count)

-- a page is one of count pages from the first on
abbrev pub within : ℕ → ℕ → ℕ → Bool
within first count page = nat_le first page && nat_lt page (first + count)
