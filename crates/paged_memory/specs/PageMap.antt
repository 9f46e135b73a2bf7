-- A machine's memory and the accesses to it (Gray Paper 0.7.0, appendix A). Which forbidden byte decides a refusal, that Low is below
-- 65,536, and the calls that change pages are this project's own.
use Rattle.std.specs.Prelude.{◌≡◌, ℕ, zero, suc, ◌+◌, ◌*◌, ◌/◌, ◌%◌, ◌^◌, ◌<◌, ◌≤◌, min, Bool, true, not, ◌&&◌, ◌||◌, ◌==◌, nat_le, nat_lt, if◌then◌else◌, List, [], ◌∷◌, map, length, replicate, slice_index, slice_set, Option, Some, None, option_map, Result, Ok, Err}
use Rattle.std.specs.List.{filter, All}
use Rattle.std.specs.Ordering.{nat_cmp}
use Rattle.std.specs.FinMap as fin
use Rattle.byte_numbers.specs.Numbers.{little_number}
use Rattle.page_rights.specs.declared.rights.Rights.{Rights}
pub use Rattle.page_rights.specs.PageRights.{reaches}
pub use Rattle.page_frames.specs.PageBytes.{AreMarked}
use Rattle.page_rights.specs.declared.rights.Rights.TheVariants as may
use Rattle.paged_memory.specs.declared.access.Access.{Access}
use Rattle.paged_memory.specs.declared.access.Access.TheVariants.{Low, Fault}

-- ---- The page map

pub data Right : Type 0 where
  Read : Right
  Write : Right

-- what may be done with a page, and its 4,096 bytes
pub record Page : Type 0 where
  pub right : Right
  pub bytes : List ℕ

-- from page numbers; a page that is not there has no right, and bytes 0
abbrev pub Memory : Type 0
Memory = fin.FinMap nat_cmp Page

-- a page has one of the numbers from 16 to 2 ^ 20 - 1, and 4,096 bytes
pub record IsPage (number : ℕ) (page : Page) : Type 0 where
  pub low : 16 ≤ number
  pub high : number < 2 ^ 20
  pub size : length page.bytes ≡ 4096
  pub small : All (λ byte. byte < 256) page.bytes

abbrev pub HasWholePages : Memory → Type 0
HasWholePages m = (number : ℕ) (page : Page) → fin.get m number ≡ Some page → IsPage number page

abbrev pub page_of : ℕ → ℕ
page_of address = address / 4096

abbrev pub rights_of : Right → Rights
rights_of Read = may.Read
rights_of Write = may.Write

-- of a page or none
abbrev pub rights_in : Option Page → Rights
rights_in None = may.No
rights_in (Some page) = rights_of page.right

abbrev pub rights : Memory → ℕ → Rights
rights m page = rights_in (fin.get m page)

abbrev pub byte_in : Option Page → ℕ → ℕ
byte_in None place = 0
byte_in (Some page) place = slice_index page.bytes place

abbrev pub byte : Memory → ℕ → ℕ
byte m address = byte_in (fin.get m (page_of address)) (address % 4096)

-- ---- What is forbidden

-- the page of an address has the right
abbrev pub has : Memory → Rights → ℕ → Bool
has m need address = reaches (rights m (page_of address)) need

-- those of n bytes from an address on, modulo 2 ^ 32
unfoldable pub addresses : ℕ → ℕ → List ℕ
addresses from zero = []
addresses from (suc n) = (from % 2 ^ 32) ∷ addresses (from + 1) n

-- those that lack the right
abbrev pub forbidden : Memory → Rights → ℕ → ℕ → List ℕ
forbidden m need from n = filter (λ address. not (has m need address)) (addresses from n)

abbrev pub lower : ℕ → Option ℕ → ℕ
lower x None = x
lower x (Some y) = min x y

-- the least of a list's numbers
abbrev pub least : List ℕ → Option ℕ
least [] = None
least (x ∷ xs) = Some (lower x (least xs))

-- Low where the least forbidden address is below 65,536, else a fault at the start of its page
abbrev pub access_at : ℕ → Access
access_at address = if nat_lt address 65536 then Low else Fault (page_of address * 4096)

-- why an access of n bytes is refused; None where no address is forbidden
abbrev pub refusal : Memory → Rights → ℕ → ℕ → Option Access
refusal m need from n = option_map access_at (least (forbidden m need from n))

-- ---- Loads and stores

-- how many bytes a load or a store takes
abbrev pub is_width : ℕ → Bool
is_width n = n == 1 || n == 2 || n == 4 || n == 8

abbrev pub unless : Option Access → ℕ → Result ℕ Access
unless None value = Ok value
unless (Some access) value = Err access

-- what a load of n bytes gives
abbrev pub loaded : Memory → ℕ → ℕ → Result ℕ Access
loaded m from n = unless (refusal m may.Read from n) (little_number (map (byte m) (addresses from n)))

abbrev pub put_in : Memory → ℕ → Option Page → ℕ → Memory
put_in m address None byte = m
put_in m address (Some page) byte = fin.insert m (page_of address) (record page { bytes = slice_set page.bytes (address % 4096) byte })

-- the memory with a byte at an address; the same where its page is not there
abbrev pub put_byte : Memory → ℕ → ℕ → Memory
put_byte m address byte = put_in m address (fin.get m (page_of address)) byte

-- the memory with these bytes from an address on, modulo 2 ^ 32
unfoldable pub put_bytes : Memory → ℕ → List ℕ → Memory
put_bytes m from [] = m
put_bytes m from (b ∷ bs) = put_bytes (put_byte m (from % 2 ^ 32) b) (from + 1) bs

-- ---- Ranges of bytes

unfoldable pub all_have : Memory → Rights → ℕ → ℕ → Bool
all_have m need address zero = true
all_have m need address (suc n) = has m need address && all_have m need (address + 1) n

-- n bytes at an address have a right: each, within the 2 ^ 32 addresses
abbrev pub accessible : Memory → Rights → ℕ → ℕ → Bool
accessible m need address n = n == 0 || (nat_le (address + n) (2 ^ 32) && all_have m need address n)

abbrev pub readable : Memory → ℕ → ℕ → Bool
readable m address n = accessible m may.Read address n

abbrev pub writable : Memory → ℕ → ℕ → Bool
writable m address n = accessible m may.Write address n

-- the n bytes at an address
unfoldable pub bytes_from : Memory → ℕ → ℕ → List ℕ
bytes_from m address zero = []
bytes_from m address (suc n) = byte m address ∷ bytes_from m (address + 1) n

-- ---- Ranges of pages

-- the bytes of a page that was never written
unfoldable pub blank : List ℕ
blank = replicate 4096 0

-- the bytes of a page, which are 0 where it is not there
abbrev pub bytes_in : Option Page → List ℕ
bytes_in None = blank
bytes_in (Some page) = page.bytes

-- a page or none where it is given rights
abbrev pub page_set : Rights → Bool → Option Page → Option Page
page_set may.No keep page = None
page_set may.Read keep page = Some (record { right = Read; bytes = if keep then bytes_in page else blank })
page_set may.Write keep page = Some (record { right = Write; bytes = if keep then bytes_in page else blank })

-- a page or none where it is lifted
abbrev pub page_lifted : Option Page → Option Page
page_lifted None = Some (record { right = Write; bytes = blank })
page_lifted (Some page) = Some page

-- the memory with other rights of one page. Its bytes become 0 unless they are kept
abbrev pub set_page : Memory → ℕ → Rights → Bool → Memory
set_page m page may.No keep = fin.remove m page
set_page m page may.Read keep = fin.insert m page (record { right = Read; bytes = if keep then bytes_in (fin.get m page) else blank })
set_page m page may.Write keep = fin.insert m page (record { right = Write; bytes = if keep then bytes_in (fin.get m page) else blank })

-- the same of count pages from the first on
unfoldable pub set_pages : Memory → ℕ → ℕ → Rights → Bool → Memory
set_pages m first zero to keep = m
set_pages m first (suc count) to keep = set_pages (set_page m first to keep) (first + 1) count to keep

abbrev pub lift_in : Memory → ℕ → Option Page → Memory
lift_in m number None = fin.insert m number (record { right = Write; bytes = blank })
lift_in m number (Some page) = m

-- the memory where a page without rights may be written, and is 0
abbrev pub lift_page : Memory → ℕ → Memory
lift_page m number = lift_in m number (fin.get m number)

-- the same of count pages from the first on
unfoldable pub lift_pages : Memory → ℕ → ℕ → Memory
lift_pages m first zero = m
lift_pages m first (suc count) = lift_pages (lift_page m first) (first + 1) count

abbrev pub HasRights : Memory → ℕ → Type 0
HasRights m page = reaches (rights m page) may.Read ≡ true

-- each of count pages from the first on has some right
abbrev pub HaveRights : Memory → ℕ → ℕ → Type 0
HaveRights m first count = (page : ℕ) → first ≤ page → page < first + count → HasRights m page

-- each of count pages from the first on has these rights
abbrev pub HaveAlready : Memory → ℕ → ℕ → Rights → Type 0
HaveAlready m first count to = (page : ℕ) → first ≤ page → page < first + count → rights m page ≡ to
