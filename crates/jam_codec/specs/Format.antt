-- Formats: which values of a type have a spelling, what it is, and how it is read. Formats of fields are put
-- together into formats of records, lists and files; the laws of each come from those of its parts.
use Rattle.std.specs.Prelude.{◌≡◌, ℕ, zero, suc, ◌*◌, ◌<◌, ◌^◌, Bool, true, List, [], ◌∷◌, ◌++◌, length, Result, Ok, Err, Option, Some, None, ◌⊎◌, if◌then◌else◌, nat_lt}
use Rattle.jam_codec.specs.Spelling.{natural, packed}
use Rattle.byte_numbers.specs.Numbers.{little_endian}
use Rattle.jam_codec.specs.Reading.{Reading, ◌>>=◌, natural_at, bytes_at, fixed_at, bits_at}

pub record Format (A : Type 0) : Type 1 where
  -- which values have a spelling
  pub Fits : A → Type 0
  pub spell : A → List ℕ
  -- the bytes are the first fields of a value, each whole: none of them, some or all
  pub Run : List ℕ → Type 0
  -- the value and what is left, or the place of the first field that does not spell
  pub read : Reading → Result (A × Reading) ℕ

-- the bytes are the spelling of the value
abbrev pub Spells : {A : Type 0} → Format A → A → List ℕ → Type 0
Spells f x bytes = f.Fits x × (bytes ≡ f.spell x)

abbrev pub from : ℕ → List ℕ → Reading
from place rest = record { place = place; rest = rest }

-- what was read, if it passes a test; else its field does not spell
abbrev pub passing : {A : Type 0} → (A → Bool) → ℕ → Result (A × Reading) ℕ → Result (A × Reading) ℕ
passing test place (Ok x) = if test x.0 then Ok x else Err place
passing test place (Err e) = Err place

-- one field, whose value passes a test
abbrev pub field_where : {A : Type 0} → (A → Bool) → (A → Type 0) → (A → List ℕ) → (Reading → Result (A × Reading) ℕ) → Format A
field_where {A} test Fits spell read = record {
  Fits = λ x. Fits x × (test x ≡ true);
  spell = spell;
  Run = λ run. (run ≡ []) ⊎ ((x : A) × Fits x × (test x ≡ true) × (run ≡ spell x));
  read = λ r. passing test r.place (read r);
}

abbrev pub any : {A : Type 0} → A → Bool
any x = true

-- a natural below 2 ^ 64
abbrev pub natural_where : (ℕ → Bool) → Format ℕ
natural_where test = field_where test (λ x. x < 2 ^ 64) natural natural_at

-- a number of n bytes
abbrev pub fixed_where : ℕ → (ℕ → Bool) → Format ℕ
fixed_where n test = field_where test (λ x. x < 2 ^ (8 * n)) (little_endian n) (fixed_at n)

-- a run of n bytes
abbrev pub bytes_where : ℕ → (List ℕ → Bool) → Format (List ℕ)
bytes_where n test = field_where test (λ x. length x ≡ n) (λ x. x) (bytes_at n)

-- a string of n bits
abbrev pub bits_where : ℕ → (List Bool → Bool) → Format (List Bool)
bits_where n test = field_where test (λ x. length x ≡ n) packed (bits_at n)

-- one part, and then the part that its value asks for
abbrev pub both : {A B : Type 0} → Format A → (A → Format B) → Format (A × B)
both {A} f g = record {
  Fits = λ p. f.Fits p.0 × (g p.0).Fits p.1;
  spell = λ p. f.spell p.0 ++ (g p.0).spell p.1;
  Run = λ run. f.Run run ⊎ ((x : A) × (more : List ℕ) × f.Fits x × (g x).Run more × (run ≡ f.spell x ++ more));
  read = λ r. f.read r >>= λ x. (g x.0).read x.1 >>= λ y. Ok ((x.0, y.0), y.1);
}

-- the same fields, seen as another value
abbrev pub by : {A B : Type 0} → (A → B) → (B → A) → Format A → Format B
by view unview f = record {
  Fits = λ b. f.Fits (unview b);
  spell = λ b. f.spell (unview b);
  Run = f.Run;
  read = λ r. f.read r >>= λ x. Ok (view x.0, x.1);
}

-- n items, one after another, each in the format that the one before it asks for
unfoldable pub items_fit : {A : Type 0} → (Option A → Format A) → ℕ → Option A → List A → Type 0
items_fit g zero last [] = Unit {0}
items_fit g zero last (x ∷ xs) = ⊥
items_fit g (suc n) last [] = ⊥
items_fit g (suc n) last (x ∷ xs) = (g last).Fits x × items_fit g n (Some x) xs

unfoldable pub items_spelled : {A : Type 0} → (Option A → Format A) → Option A → List A → List ℕ
items_spelled g last [] = []
items_spelled g last (x ∷ xs) = (g last).spell x ++ items_spelled g (Some x) xs

unfoldable pub items_run : {A : Type 0} → (Option A → Format A) → ℕ → Option A → List ℕ → Type 0
items_run g zero last run = run ≡ []
items_run {A} g (suc n) last run = (g last).Run run
    ⊎ ((x : A) × (more : List ℕ) × (g last).Fits x × items_run g n (Some x) more × (run ≡ (g last).spell x ++ more))

unfoldable pub items_at : {A : Type 0} → (Option A → Format A) → ℕ → Option A → Reading → Result (List A × Reading) ℕ
items_at g zero last r = Ok ([], r)
items_at g (suc n) last r = (g last).read r >>= λ x. items_at g n (Some x.0) x.1 >>= λ y. Ok (x.0 ∷ y.0, y.1)

abbrev pub times : {A : Type 0} → (Option A → Format A) → ℕ → Format (List A)
times g n = record { Fits = items_fit g n None; spell = items_spelled g None; Run = items_run g n None; read = items_at g n None }

-- n numbers of `width` bytes each
abbrev pub numbers_of : ℕ → ℕ → Format (List ℕ)
numbers_of width n = times (λ last. fixed_where width any) n

-- a whole file: the value of all the bytes, or the place of the first field that does not spell; bytes after the value do not spell
abbrev pub whole : {A : Type 0} → Format A → List ℕ → Result A ℕ
whole f bytes = f.read (from 0 bytes) >>= λ x. if nat_lt 0 (length x.1.rest) then Err x.1.place else Ok x.0
