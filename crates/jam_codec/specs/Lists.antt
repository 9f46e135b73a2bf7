-- Formats of blobs, lists, maps and values that may be absent, put together from fields.
use Rattle.std.specs.Prelude.{ℕ, Bool, true, false, List, [], ◌++◌, length, Result, Ok, Option, Some, None, if◌then◌else◌, nat_lt, nat_le, ◌==◌, ◌≡◌, ◌+◌, ◌^◌, ◌<◌, ◌⊎◌}
use Rattle.std.specs.Option.{option_map, is_some}
use Rattle.std.specs.FinMap as fin
use Rattle.std.specs.declared.cmp.Ordering.{Ordering}
use Rattle.std.specs.Ordering.{nat_cmp, is_lt, is_le, ordering_then}
use Rattle.std.specs.Cmp.Lexicographic.{slice_cmp}
use Rattle.jam_codec.specs.Spelling.{natural}
use Rattle.jam_codec.specs.Reading.{Reading, ◌>>=◌}
use Rattle.jam_codec.specs.Format.{Format, any, both, by, times, natural_where, fixed_where, bytes_where}

-- two fields, a length and so many bytes; where the bytes do not pass the test, they are the field that does not spell
abbrev pub blob_where : (List ℕ → Bool) → Format (List ℕ)
blob_where test = by (λ p. p.1) (λ bytes. (length bytes, bytes)) (both (natural_where any) (λ n. bytes_where n test))

-- no length is spelled there, or fewer bytes are left after it
abbrev pub HasNoBlob : Reading → ℕ → Type 0
HasNoBlob r place = ((place ≡ r.place) × ((n : ℕ) (tail : List ℕ) → n < 2 ^ 64 → r.rest ≡ natural n ++ tail → ⊥))
    ⊎ ((n : ℕ) × (tail : List ℕ) × (n < 2 ^ 64) × (r.rest ≡ natural n ++ tail) × (length tail < n) × (place ≡ r.place + length (natural n)))

-- a count up to a limit
abbrev pub up_to : ℕ → ℕ → Bool
up_to limit n = nat_le n limit

-- a count that passes a test, and so many items, each in the format that the one before it asks for
abbrev pub list_of : {A : Type 0} → (ℕ → Bool) → (Option A → Format A) → Format (List A)
list_of test g = by (λ p. p.1) (λ xs. (length xs, xs)) (both (natural_where test) (times g))

-- an entry of a map: a key in the format that the key before it asks for, and a value
abbrev pub map_entry : {K V : Type 0} → (Option K → Format K) → Format V → Option (K × V) → Format (K × V)
map_entry key value last = both (key (option_map (λ entry. entry.0) last)) (λ k. value)

-- any count, and so many entries
abbrev pub map_of : {K V : Type 0} → (Option K → Format K) → Format V → Format (List (K × V))
map_of key value = list_of any (map_entry key value)

-- the entries, seen as a finite map
abbrev pub fin_map_of : {K V : Type 0} → (R : K → K → Ordering) → (Option K → Format K) → Format V → Format (fin.FinMap R V)
fin_map_of R key value = by (fin.from_sorted {R = R}) fin.entries (map_of key value)

-- whether a key stands above the one before it, where there is one
abbrev pub follows : {K : Type 0} → (K → K → Ordering) → Option K → K → Bool
follows R None k = true
follows R (Some last) k = is_lt (R last k)

-- blobs that ascend byte by byte, a proper prefix first
abbrev pub blob_after : Option (List ℕ) → Format (List ℕ)
blob_after last = blob_where (follows (slice_cmp nat_cmp) last)

-- blobs whose digests ascend
abbrev pub blob_by_after : (List ℕ → List ℕ) → Option (List ℕ) → Format (List ℕ)
blob_by_after digest last = blob_where (λ bytes. follows (slice_cmp nat_cmp) (option_map digest last) (digest bytes))

-- numbers of n bytes that ascend
abbrev pub number_after : ℕ → Option ℕ → Format ℕ
number_after n last = fixed_where n (follows nat_cmp last)

-- pairs of a hash and a number, by the hash and then by the number
abbrev pub hash_and_number_cmp : List ℕ × ℕ → List ℕ × ℕ → Ordering
hash_and_number_cmp a b = ordering_then (slice_cmp nat_cmp a.0 b.0) (nat_cmp a.1 b.1)

abbrev pub is_hash_from : Option (List ℕ × ℕ) → List ℕ → Bool
is_hash_from None hash = true
is_hash_from (Some last) hash = is_le (slice_cmp nat_cmp last.0 hash)

-- such pairs, ascending: a hash below the last one does not spell, nor does a number not above the last one at the same hash
abbrev pub hash_and_number_after : Option (List ℕ × ℕ) → Format (List ℕ × ℕ)
hash_and_number_after last = both (bytes_where 32 (is_hash_from last)) (λ hash. fixed_where 4 (λ n. follows hash_and_number_cmp last (hash, n)))

-- no field: the value is x
abbrev pub nothing : {A : Type 0} → A → Format A
nothing {A} x = record { Fits = λ y. y ≡ x; spell = λ y. []; Run = λ run. run ≡ []; read = λ r. Ok (x, r) }

-- one byte: 1 where a value follows, 0 where none does
abbrev pub option_tag : Format Bool
option_tag = by (λ tag. nat_lt 0 tag) (λ present. if present then 1 else 0) (fixed_where 1 (λ tag. nat_le tag 1))

abbrev pub some_fits : {A : Type 0} → Format A → Option A → Type 0
some_fits f None = ⊥
some_fits f (Some x) = f.Fits x

abbrev pub some_spelled : {A : Type 0} → Format A → Option A → List ℕ
some_spelled f None = []
some_spelled f (Some x) = f.spell x

-- a value that is there
abbrev pub some_of : {A : Type 0} → Format A → Format (Option A)
some_of f = record { Fits = some_fits f; spell = some_spelled f; Run = f.Run; read = λ r. f.read r >>= λ x. Ok (Some x.0, x.1) }

-- what follows the tag of an option: the value where it says so, else no field
abbrev pub if_present : {A : Type 0} → Format A → Bool → Format (Option A)
if_present f true = some_of f
if_present f false = nothing None

-- a tag, and the value where it says that one follows
abbrev pub option_of : {A : Type 0} → Format A → Format (Option A)
option_of f = by (λ p. p.1) (λ x. (is_some x, x)) (both option_tag (if_present f))

-- the byte 1, and a value
abbrev pub behind_one : {A : Type 0} → Format A → Format A
behind_one f = by (λ p. p.1) (λ x. (1, x)) (both (fixed_where 1 (λ tag. tag == 1)) (λ tag. f))

-- ---- A whole file whose last part may be missing

abbrev pub tail_fits : {A : Type 0} → Format A → Option A → Type 0
tail_fits f None = Unit {0}
tail_fits f (Some x) = f.Fits x

-- no value where no byte is left, else the value
abbrev pub tail_at : {A : Type 0} → Format A → Reading → Result (Option A × Reading) ℕ
tail_at f r = if nat_lt 0 (length r.rest) then f.read r >>= (λ x. Ok (Some x.0, x.1)) else Ok (None, r)

-- one part, and then the end or one part more. It stands at the end of a file alone, since no byte tells that the second part is missing
abbrev pub with_tail : {A B : Type 0} → Format A → Format B → Format (A × Option B)
with_tail f g = record {
  Fits = λ p. f.Fits p.0 × tail_fits g p.1;
  spell = λ p. f.spell p.0 ++ some_spelled g p.1;
  Run = (both f (λ x. g)).Run;
  read = λ r. f.read r >>= λ x. tail_at g x.1 >>= λ y. Ok ((x.0, y.0), y.1);
}
