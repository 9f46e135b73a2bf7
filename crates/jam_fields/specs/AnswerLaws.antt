-- What was read of a whole file.
use Rattle.std.proofs.Common.{ℕ, List, Result, Ok, Err, IfOk}
use Rattle.jam_codec.specs.Reading.{Reading, Reads, ReadsWhole}
use Rattle.jam_codec.specs.Format.{Format, Spells, from, whole}
use Rattle.byte_numbers.specs.Numbers.{AreBytes}
use Rattle.jam_codec.specs.Laws.{Longest, IsFormat, IsFileFormat, SpellsNone, SpellsNoneAt}
use Rattle.jam_codec.specs.FormatLaws.{refused-none, none_spelled}
use Rattle.jam_codec.specs.Refusal.{place_of, IfMalformed}
use Rattle.jam_codec.specs.declared.refusal.FileRefusal.{FileRefusal}
use Rattle.jam_codec.specs.declared.refusal.FileRefusal.TheVariants.{Malformed, NoMemory}

module _ {A : Type 0} (f : Format A) (F : IsFileFormat f) (bytes : List ℕ) where
  pub value_found : (result : Result A FileRefusal) → AreBytes bytes → ReadsWhole place_of result (whole f bytes) → IfOk result (λ x. Spells f x bytes)
  value_found (Ok x) are read = F.found bytes x are read
  value_found (Err e) are read = tt

  pub whole_none_spelled : (result : Result A FileRefusal) → ReadsWhole place_of result (whole f bytes) → IfMalformed result (λ place. SpellsNone f bytes)
  whole_none_spelled (Ok x) read = tt
  whole_none_spelled (Err (Malformed place)) read = refused-none f F bytes place read
  whole_none_spelled (Err NoMemory) read = tt

  pub longest_run : (result : Result A FileRefusal) → AreBytes bytes → ReadsWhole place_of result (whole f bytes) → IfMalformed result (λ place. Longest f.Run (from 0 bytes) place)
  longest_run (Ok x) are read = tt
  longest_run (Err (Malformed place)) are read = F.refused bytes place are read
  longest_run (Err NoMemory) are read = tt

-- what a reader of one field says of the values that are spelled there
pub none_here : {A : Type 0} (f : Format A) → IsFormat f → (result : Result A FileRefusal) (r s : Reading) → Reads place_of (λ x. x) result s (f.read r) → IfMalformed result (λ place. SpellsNoneAt f r)
none_here f F (Ok x) r s read = tt
none_here f F (Err (Malformed place)) r s read = none_spelled f F r place read
none_here f F (Err NoMemory) r s read = tt
