-- What was read of the outer fields of a standard program.
use Rattle.std.proofs.Common.{◌≡◌, ℕ, List, Result, Ok, Err, IfOk}
use Rattle.std.specs.Prelude.{IfErr, MatchResult}
use Rattle.jam_codec.specs.Format.{Spells, from, whole}
use Rattle.byte_numbers.specs.Numbers.{AreBytes}
use Rattle.jam_codec.specs.Laws.{Longest, SpellsNone, IsFileFormat}
use Rattle.jam_codec.specs.FormatLaws.{file_laws, refused-none}
use Rattle.program_init.specs.declared.parts.Parts as read_parts
use Rattle.program_init.specs.declared.refusal.NotStandard as refusal
use Rattle.program_init.specs.Standard.{outer}
use Rattle.program_init.specs.StandardLaws.{outer_laws}
use Rattle.program_init.specs.Read.{plain_parts}

outer_files : IsFileFormat outer
outer_files = file_laws outer outer_laws

module _ (bytes : List ℕ) where
  abbrev IsRead : Result read_parts.Parts refusal.NotStandard → Type 0
  IsRead result = MatchResult result (λ p. whole outer bytes ≡ Ok (plain_parts p)) (λ e. whole outer bytes ≡ Err e.place)

  pub parts_found : (result : Result read_parts.Parts refusal.NotStandard) → AreBytes bytes → IsRead result → IfOk result (λ p. Spells outer (plain_parts p) bytes)
  parts_found (Ok p) are read = outer_files.found bytes (plain_parts p) are read
  parts_found (Err e) are read = tt

  pub none_found : (result : Result read_parts.Parts refusal.NotStandard) → IsRead result → IfErr result (λ e. SpellsNone outer bytes)
  none_found (Ok p) read = tt
  none_found (Err e) read = refused-none outer outer_files bytes e.place read

  pub longest_found : (result : Result read_parts.Parts refusal.NotStandard) → AreBytes bytes → IsRead result → IfErr result (λ e. Longest outer.Run (from 0 bytes) e.place)
  longest_found (Ok p) are read = tt
  longest_found (Err e) are read = outer_files.refused bytes e.place are read
