-- What deblob says of the bytes of the code.
use Rattle.std.proofs.Common.{◌≡◌, ℕ, List, Result, Ok, Err, subst, sym, refl}
use Rattle.jam_codec.specs.Format.{Spells, whole}
use Rattle.byte_numbers.specs.Numbers.{AreBytes}
use Rattle.jam_codec.specs.Laws.{SpellsNone, IsFileFormat}
use Rattle.jam_codec.specs.FormatLaws.{file_laws}
use Rattle.blob_decode.specs.Program.{Program, program_blob}
use Rattle.blob_decode.specs.BlobLaws.{program_blob_laws}

blob_files : IsFileFormat program_blob
blob_files = file_laws program_blob program_blob_laws

-- bytes that spell a program are read as it
pub program_read : (bytes : List ℕ) (p : Program) → Spells program_blob p bytes → whole program_blob bytes ≡ Ok p
program_read bytes p spells = subst (λ (b : List ℕ). whole program_blob b ≡ Ok p) (sym spells.1) (blob_files.again p spells.0)

refused_whole : (bytes : List ℕ) → AreBytes bytes → SpellsNone program_blob bytes → (r : Result Program ℕ) → whole program_blob bytes ≡ r → (inner : ℕ) × (whole program_blob bytes ≡ Err inner)
refused_whole bytes are none (Ok p) e = absurd (none p (blob_files.found bytes p are e))
refused_whole bytes are none (Err inner) e = (inner, e)

-- of bytes that spell none nothing is read
pub program_refused : (bytes : List ℕ) → AreBytes bytes → SpellsNone program_blob bytes → (inner : ℕ) × (whole program_blob bytes ≡ Err inner)
program_refused bytes are none = refused_whole bytes are none (whole program_blob bytes) refl
