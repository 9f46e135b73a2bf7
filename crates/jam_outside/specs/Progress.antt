-- How far a whole read has come, where the vault tells its files.
use Rattle.std.specs.Prelude.{◌≡◌, ℕ, ◌≤◌, List, length, take, Option, IfSome}
use Rattle.jam_outside.specs.Files.{Files, content}

-- the file begins with these bytes
abbrev pub IsFront : Option Files → List ℕ → List ℕ → Type 0
IsFront files name bytes = IfSome files (λ held. bytes ≡ take (length bytes) (content held name))

-- the file ends at or before this place
abbrev pub HasNoMore : Option Files → List ℕ → ℕ → Type 0
HasNoMore files name place = IfSome files (λ held. length (content held name) ≤ place)

-- a file was read up to a place: these bytes were taken, and it begins with them
pub record IsReadTo (Took : List ℕ → Type 0) (files : Option Files) (name : List ℕ) (place : ℕ) : Type 0 where
  pub bytes : List ℕ
  pub took : Took bytes
  pub reached : length bytes ≡ place
  pub front : IsFront files name bytes
