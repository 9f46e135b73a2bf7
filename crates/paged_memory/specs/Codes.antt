-- Codes of the values that contracts see.
use Rattle.std.specs.Prelude.{◌≡◌, ℕ, Bool, true, false, List, refl}
use Rattle.std.specs.Coded.{Coded, code_by, coded×, coded_ℕ, coded_bool, coded_list}
use Rattle.std.specs.FinMap as fin
use Rattle.paged_memory.specs.PageMap.{Right, Read, Write, Page, Memory}

abbrev may_write : Right → Bool
may_write Read = false
may_write Write = true

abbrev right_of : Bool → Right
right_of false = Read
right_of true = Write

pub right_back : (r : Right) → right_of (may_write r) ≡ r
right_back Read = refl
right_back Write = refl

abbrev pub right_code : Coded Right
right_code = code_by Bool coded_bool may_write right_of right_back

abbrev pub page_code : Coded Page
page_code = code_by (Right × List ℕ) (coded× right_code (coded_list coded_ℕ)) (λ p. (p.right, p.bytes)) (λ p. record { right = p.0; bytes = p.1 }) (λ _. refl)

abbrev pub memory_code : Coded Memory
memory_code = fin.code coded_ℕ page_code
