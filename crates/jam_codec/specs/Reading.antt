-- What stands at the front of bytes: a field's value and what is left, or nothing that spells.
use Rattle.std.specs.Prelude.{◌≡◌, ℕ, ◌+◌, ◌-◌, ◌*◌, ◌^◌, Bool, List, [], ◌∷◌, ◌++◌, length, take, drop, Result, Ok, Err, Option, Some, None, if◌then◌else◌, nat_lt}
use Rattle.byte_numbers.specs.Numbers.{little_number}
use Rattle.jam_codec.specs.Spelling.{prefix_of, binary_digits, bytes_for}

-- how many bytes were read, and those that are left
pub record Reading : Type 0 where
  pub place : ℕ
  pub rest : List ℕ

-- these bytes were read
pub record Takes (old : Reading) (bytes : List ℕ) (new : Reading) : Type 0 where
  pub place : new.place ≡ old.place + length bytes
  pub rest : old.rest ≡ bytes ++ new.rest

-- one field, and then what its value asks for; a field that does not spell ends it at its place
infixl 10 ◌>>=◌
abbrev pub ◌>>=◌ : {A B : Type 0} → Result A ℕ → (A → Result B ℕ) → Result B ℕ
(Ok x) >>= f = f x
(Err place) >>= f = Err place

-- the reading after n bytes
abbrev pub past : ℕ → Reading → Reading
past n r = record { place = r.place + n; rest = drop n r.rest }

-- a run of n bytes
unfoldable pub bytes_at : ℕ → Reading → Result (List ℕ × Reading) ℕ
bytes_at n r = if nat_lt (length r.rest) n then Err r.place else Ok (take n r.rest, past n r)

-- a number of n bytes
unfoldable pub fixed_at : ℕ → Reading → Result (ℕ × Reading) ℕ
fixed_at n r = if nat_lt (length r.rest) n then Err r.place else Ok (little_number (take n r.rest), past n r)

-- a string of n bits; no bit beyond them is set
unfoldable pub bits_at : ℕ → Reading → Result (List Bool × Reading) ℕ
bits_at n r = if nat_lt (length r.rest) (bytes_for n) then Err r.place
    else if nat_lt (little_number (take (bytes_for n) r.rest)) (2 ^ n) then Ok (binary_digits n (little_number (take (bytes_for n) r.rest)), past (bytes_for n) r)
    else Err r.place

-- how many bytes follow this first byte of a natural: its leading ones
abbrev pub tail_after : ℕ → ℕ
tail_after first = if nat_lt first 128 then 0 else if nat_lt first 192 then 1 else if nat_lt first 224 then 2
    else if nat_lt first 240 then 3 else if nat_lt first 248 then 4 else if nat_lt first 252 then 5
    else if nat_lt first 254 then 6 else if nat_lt first 255 then 7 else 8

-- the least natural that l bytes follow
abbrev pub least_with : ℕ → ℕ
least_with l = if nat_lt 0 l then 2 ^ (7 * l) else 0

-- the natural of a first byte and the l bytes after it
abbrev pub joined : ℕ → ℕ → List ℕ → ℕ
joined first l tail = (first - prefix_of l) * 2 ^ (8 * l) + little_number (take l tail)

-- the natural of a first byte and the l bytes after it, and the bytes left; none where bytes are missing or fewer would do
abbrev pub natural_after : ℕ → ℕ → List ℕ → Option (ℕ × List ℕ)
natural_after first l tail = if nat_lt (length tail) l then None
    else if nat_lt (joined first l tail) (least_with l) then None
    else Some (joined first l tail, drop l tail)

-- the natural at the front of bytes, and the bytes left
unfoldable pub natural_of : List ℕ → Option (ℕ × List ℕ)
natural_of [] = None
natural_of (first ∷ tail) = natural_after first (tail_after first) tail

abbrev pub moved : {A : Type 0} → Reading → Option (A × List ℕ) → Result (A × Reading) ℕ
moved r None = Err r.place
moved r (Some found) = Ok (found.0, record { place = r.place + (length r.rest - length found.1); rest = found.1 })

-- a natural
unfoldable pub natural_at : Reading → Result (ℕ × Reading) ℕ
natural_at r = moved r (natural_of r.rest)

-- an error that names a place says that the field there does not spell; one that names none, as want of memory, says nothing
abbrev pub Refuses : {Y : Type 0} → Option ℕ → Result Y ℕ → Type 0
Refuses None read = Unit {0}
Refuses (Some place) read = read ≡ Err place

-- a reader answered what the reading function gives, and stands after it
abbrev pub Reads : {X Y E : Type 0} → (E → Option ℕ) → (X → Y) → Result X E → Reading → Result (Y × Reading) ℕ → Type 0
Reads place view (Ok x) new read = read ≡ Ok (view x, new)
Reads place view (Err e) new read = Refuses (place e) read

-- the same of a whole file
abbrev pub ReadsWhole : {X E : Type 0} → (E → Option ℕ) → Result X E → Result X ℕ → Type 0
ReadsWhole place (Ok x) read = read ≡ Ok x
ReadsWhole place (Err e) read = Refuses (place e) read
