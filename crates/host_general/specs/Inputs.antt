-- What fetch gives (Gray Paper 0.7.0, appendix B; the five kinds and their bytes are this project's own).
use Rattle.std.specs.Prelude.{ℕ, ◌==◌, List, ◌++◌, length, slice_get, Option, Some, None, if◌then◌else◌, refl}
use Rattle.std.specs.List.{concat}
use Rattle.std.specs.Coded.{Coded, code_by, coded×, coded_ℕ, coded_list, coded_option}
use Rattle.byte_numbers.specs.Numbers.{little_endian}
use Rattle.jam_codec.specs.Spelling.{natural}

-- what a run is given: the entropy, the payload where there is one, and pieces, which are imports, operands or transfers
pub record Inputs : Type 0 where
  pub entropy : List ℕ
  pub payload : Option (List ℕ)
  pub pieces : List (List ℕ)

-- the numbers that services rely on, of eight bytes each: what an account, an item and an octet cost, for how many slots a forgotten
-- preimage is kept, how long a segment is, how many of them an item may export, how long a memo is, and how long code may be
abbrev pub constants : List ℕ
constants =
    little_endian 8 100 ++ little_endian 8 10 ++ little_endian 8 1 ++ little_endian 8 19200 ++ little_endian 8 4104 ++ little_endian 8 3072
    ++ little_endian 8 128 ++ little_endian 8 4000000

-- the pieces behind their count, each without its length
abbrev pub listed : List (List ℕ) → List ℕ
listed pieces = natural (length pieces) ++ concat pieces

-- the value of a kind, of which the third has an index
abbrev pub fetched : Inputs → ℕ → ℕ → Option (List ℕ)
fetched inputs kind index =
    if kind == 0 then Some constants
    else if kind == 1 then Some inputs.entropy
    else if kind == 2 then inputs.payload
    else if kind == 3 then slice_get inputs.pieces index
    else if kind == 4 then Some (listed inputs.pieces)
    else None

abbrev pub coded_inputs : Coded Inputs
coded_inputs =
    code_by (List ℕ × (Option (List ℕ) × List (List ℕ))) (coded× (coded_list coded_ℕ) (coded× (coded_option (coded_list coded_ℕ)) (coded_list (coded_list coded_ℕ))))
    (λ i. (i.entropy, (i.payload, i.pieces))) (λ p. record { entropy = p.0; payload = p.1.0; pieces = p.1.1 }) (λ _. refl)
