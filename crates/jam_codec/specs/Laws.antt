-- What holds of each format.
use Rattle.std.specs.Prelude.{◌≡◌, ℕ, ◌+◌, ◌≤◌, List, ◌++◌, length, Result, Ok, Err, ◌⊎◌}
use Rattle.byte_numbers.specs.Numbers.{AreBytes}
use Rattle.jam_codec.specs.Reading.{Reading, Takes}
use Rattle.jam_codec.specs.Format.{Format, Spells, from, whole}

-- what is spelled is read, whatever follows it; what is read fits, and is spelled so
pub record IsCode {A : Type 0} (Fits : A → Type 0) (spell : A → List ℕ) (read : Reading → Result (A × Reading) ℕ) : Type 0 where
  pub again : (place : ℕ) (x : A) (rest : List ℕ) → Fits x → read (from place (spell x ++ rest)) ≡ Ok (x, from (place + length (spell x)) rest)
  pub found : (r : Reading) (x : A) (s : Reading) → AreBytes r.rest → read r ≡ Ok (x, s) → Fits x × Takes r (spell x) s

-- the end of the longest run of whole fields that stands there
pub record Longest (Run : List ℕ → Type 0) (r : Reading) (end : ℕ) : Type 0 where
  pub run : List ℕ
  pub left : List ℕ
  pub whole : Run run
  pub bytes : r.rest ≡ run ++ left
  pub place : end ≡ r.place + length run
  pub longest : (other more : List ℕ) → Run other → r.rest ≡ other ++ more → length other ≤ length run

pub record IsFormat {A : Type 0} (f : Format A) : Type 0 where
  pub code : IsCode f.Fits f.spell f.read
  -- a whole value is a run of its fields
  pub all : (x : A) → f.Fits x → f.Run (f.spell x)
  -- and no run that stands in its place is longer
  pub runs : (x : A) (run more rest : List ℕ) → f.Fits x → f.Run run → run ++ more ≡ f.spell x ++ rest → length run ≤ length (f.spell x)
  -- a refusal's place is the end of the longest run
  pub refused : (r : Reading) (place : ℕ) → AreBytes r.rest → f.read r ≡ Err place → Longest f.Run r place

-- what holds of a format where its value is a whole file, and nothing follows it
pub record IsFileFormat {A : Type 0} (f : Format A) : Type 0 where
  pub again : (x : A) → f.Fits x → whole f (f.spell x) ≡ Ok x
  pub found : (bytes : List ℕ) (x : A) → AreBytes bytes → whole f bytes ≡ Ok x → Spells f x bytes
  -- a refusal's place is the end of the longest run, which may be the end of a whole value
  pub refused : (bytes : List ℕ) (place : ℕ) → AreBytes bytes → whole f bytes ≡ Err place → Longest f.Run (from 0 bytes) place

-- no value has these bytes as its spelling
abbrev pub SpellsNone : {A : Type 0} → Format A → List ℕ → Type 0
SpellsNone {A} f bytes = (x : A) → Spells f x bytes → ⊥

-- no value has its spelling there, whatever follows it
abbrev pub SpellsNoneAt : {A : Type 0} → Format A → Reading → Type 0
SpellsNoneAt {A} f r = (x : A) (tail : List ℕ) → f.Fits x → r.rest ≡ f.spell x ++ tail → ⊥

-- each value has one spelling, and bytes spell one value
abbrev pub HasOneSpelling : {A : Type 0} → Format A → Type 0
HasOneSpelling {A} f = (x y : A) (bytes : List ℕ) → Spells f x bytes → Spells f y bytes → x ≡ y

-- no spelling begins another: where one stands before other bytes, nothing is left over
abbrev pub HasNoPrefix : {A : Type 0} → Format A → Type 0
HasNoPrefix {A} f = (x y : A) (bytes more : List ℕ) → Spells f x bytes → Spells f y (bytes ++ more) → length more ≡ 0

-- the one spelling that may begin another is that of the same value without its last part
abbrev pub HasOnePrefix : {A : Type 0} → Format A → (A → A) → Type 0
HasOnePrefix {A} f without = (x y : A) (bytes more : List ℕ) → Spells f x bytes → Spells f y (bytes ++ more) → (length more ≡ 0) ⊎ (x ≡ without y)
