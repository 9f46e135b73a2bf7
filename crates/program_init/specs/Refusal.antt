-- Why no machine was made.
use Rattle.std.specs.Prelude.{ℕ, ◌^◌, ◌<◌, List, length}
use Rattle.jam_codec.specs.Format.{from, Spells}
use Rattle.jam_codec.specs.Laws.{Longest, SpellsNone}
use Rattle.program_init.specs.declared.refusal.StartRefusal.{StartRefusal}
use Rattle.program_init.specs.declared.refusal.StartRefusal.TheVariants.{NotStandard, ArgsTooLong, NoMemory}
use Rattle.blob_decode.specs.Program.{Program}
use Rattle.program_init.specs.Standard.{Standard, standard_program}

-- how many bytes of arguments a program takes at the most
abbrev pub argument_limit : ℕ
argument_limit = 2 ^ 24

-- bytes that spell no standard program are refused where their longest run of whole fields ends; a standard program is refused
-- where its arguments are too long
abbrev pub NotStarted : List ℕ → List ℕ → StartRefusal → Type 0
NotStarted bytes args (NotStandard place) = SpellsNone standard_program bytes × Longest standard_program.Run (from 0 bytes) place
NotStarted bytes args ArgsTooLong = (argument_limit < length args) × ((s : Standard Program) × Spells standard_program s bytes)
NotStarted bytes args NoMemory = Unit {0}
