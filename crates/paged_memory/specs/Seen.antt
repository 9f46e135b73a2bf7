-- The rights and bytes that the program keeps, seen as a memory.
use Rattle.std.specs.Prelude.{◌≡◌, ℕ, suc, ◌*◌, ◌/◌, ◌<◌, ◌^◌, List, [], ◌∷◌, length, take, drop, Option, Some, None}
use Rattle.std.specs.List.{All}
use Rattle.std.specs.FinMap as fin
use Rattle.page_rights.specs.declared.rights.Rights.{Rights}
use Rattle.page_rights.specs.declared.rights.Rights.TheVariants as may
use Rattle.page_rights.specs.PageRights.{right_of_page}
use Rattle.page_frames.specs.PageBytes.{byte_of}
use Rattle.paged_memory.specs.declared.pages.Pages.{Pages}
use Rattle.paged_memory.specs.PageMap.{Read, Write, Page, Memory}

-- a page with these rights and bytes, which is not there where it has none
abbrev pub visible_as : Rights → List ℕ → Option Page
visible_as may.No bytes = None
visible_as may.Read bytes = Some (record { right = Read; bytes = bytes })
visible_as may.Write bytes = Some (record { right = Write; bytes = bytes })

-- the memory with a page, or without it
abbrev pub placed : Memory → ℕ → Option Page → Memory
placed m number None = fin.remove m number
placed m number (Some page) = fin.insert m number page

-- the bytes of one page
abbrev pub part_of : List ℕ → ℕ → List ℕ
part_of bytes page = take 4096 (drop (page * 4096) bytes)

-- the pages from a number on
unfoldable pub seen_from : ℕ → List Rights → List ℕ → Memory
seen_from number [] bytes = fin.empty
seen_from number (rights ∷ rest) bytes = placed (seen_from (suc number) rest bytes) number (visible_as rights (part_of bytes number))

abbrev pub seen : Pages → Memory
seen pages = seen_from 0 pages.rights pages.bytes

-- there are all pages and addresses, the 16 lowest pages have no rights, and pages without rights are zero
pub record IsWhole (all : Pages) : Type 0 where
  pub pages : length all.rights ≡ 2 ^ 20
  pub addresses : length all.bytes ≡ 2 ^ 32
  pub small : All (λ byte. byte < 256) all.bytes
  pub low : (page : ℕ) → page < 16 → right_of_page all.rights page ≡ may.No
  pub hidden : (address : ℕ) → right_of_page all.rights (address / 4096) ≡ may.No → byte_of all.bytes address ≡ 0
