-- Numbers, registers and bytes as a text spells them (this project's own).
use Rattle.std.specs.Prelude.{ℕ, ◌+◌, ◌-◌, ◌*◌, ◌%◌, ◌^◌, min, Bool, true, false, not, ◌||◌, ◌&&◌, ◌==◌, nat_lt, nat_le, List, [], ◌∷◌, length, drop, get_or, if◌then◌else◌, Option, Some, None}
use Rattle.std.specs.Option.{option_map}
use Rattle.std.specs.List.{list_all}
use Rattle.pvm_asm.specs.declared.numeral.Numeral.{Numeral}

-- the value of a digit, `0` to `9` and `a` to `f` of either case; of another byte it is 16
abbrev pub digit : ℕ → ℕ
digit b = if nat_le 48 b && nat_le b 57 then b - 48 else if nat_le 97 b && nat_le b 102 then b - 87 else if nat_le 65 b && nat_le b 70 then b - 55 else 16

abbrev pub is_digit : ℕ → ℕ → Bool
is_digit base b = nat_lt (digit b) base

-- a number n, and after it these digits
abbrev pub followed_by : ℕ → ℕ → List ℕ → ℕ
followed_by base n [] = n
followed_by base n (d ∷ ds) = followed_by base (n * base + digit d) ds

-- the number that digits spell, of which there is at least one. No number of a text is 2 ^ 64 or more, so these are not told apart
abbrev pub spelled : ℕ → List ℕ → Option ℕ
spelled base digits = if nat_lt 0 (length digits) && list_all (is_digit base) digits then Some (min (followed_by base 0 digits) (2 ^ 64)) else None

-- after `0x` stand 1 to 16 hexadecimal digits
abbrev pub hexadecimal : List ℕ → Option ℕ
hexadecimal digits = if nat_le (length digits) 16 then spelled 16 digits else None

-- a number without a sign
abbrev pub unsigned : List ℕ → Option ℕ
unsigned word = if get_or word 0 0 == 48 && get_or word 1 0 == 120 then hexadecimal (drop 2 word) else spelled 10 word

abbrev pub with_sign : Bool → Option ℕ → Option Numeral
with_sign negative size = option_map (λ n. record { negative = negative; size = n }) size

-- a number: decimal digits, which may have a minus before them, or hexadecimal ones
abbrev pub numeral : List ℕ → Option Numeral
numeral word = if get_or word 0 0 == 45 then with_sign true (spelled 10 (drop 1 word)) else with_sign false (unsigned word)

-- n bytes hold a number with its sign
abbrev pub holds : ℕ → Numeral → Bool
holds n x = if x.negative then nat_le x.size (2 ^ (8 * n - 1)) else nat_lt x.size (2 ^ (8 * n - 1))

-- the least number of bytes that give an immediate
abbrev pub least_bytes : Numeral → ℕ
least_bytes x = if x.size == 0 then 0 else if holds 1 x then 1 else if holds 2 x then 2 else if holds 3 x then 3 else 4

-- a number from 0 to a limit
abbrev pub is_up_to : ℕ → Numeral → Bool
is_up_to most x = nat_le x.size most && (x.size == 0 || not x.negative)

-- an immediate of 64 bits: -2 ^ 63 to 2 ^ 64 - 1
abbrev pub is_wide : Numeral → Bool
is_wide x = if x.negative then nat_le x.size (2 ^ 63) else nat_lt x.size (2 ^ 64)

-- a number as one of 64 bits
abbrev pub word_of : Numeral → ℕ
word_of x = if x.negative && nat_lt 0 x.size then 2 ^ 64 - x.size else x.size

-- `r0` to `r12`
abbrev pub register_named : List ℕ → Option ℕ
register_named word =
    if length word == 2 && get_or word 0 0 == 114 && is_digit 10 (get_or word 1 0) then Some (digit (get_or word 1 0))
    else if length word == 3 && get_or word 0 0 == 114 && get_or word 1 0 == 49 && is_digit 3 (get_or word 2 0) then Some (10 + digit (get_or word 2 0))
    else None

-- the bytes that pairs of hexadecimal digits spell, the high half first
abbrev pub paired : List ℕ → List ℕ
paired [] = []
paired (high ∷ []) = []
paired (high ∷ (low ∷ more)) = (16 * digit high + digit low) ∷ paired more

-- bytes in hexadecimal: an even number of digits, at least two
abbrev pub hex_bytes : List ℕ → Option (List ℕ)
hex_bytes word = if nat_lt 0 (length word) && length word % 2 == 0 && list_all (is_digit 16) word then Some (paired word) else None
