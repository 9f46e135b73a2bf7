-- Why bytes are refused.
use Rattle.std.specs.Prelude.{ℕ, List}
use Rattle.jam_codec.specs.Format.{from}
use Rattle.jam_codec.specs.Laws.{Longest}
use Rattle.blob_decode.specs.declared.program.ProgramRefusal.{ProgramRefusal}
use Rattle.blob_decode.specs.declared.program.ProgramRefusal.TheVariants.{NotProgram, NoMemory}
use Rattle.blob_decode.specs.Program.{program_blob}

-- what is no program blob is refused where its longest run of whole fields ends
abbrev pub IsPlaced : List ℕ → ProgramRefusal → Type 0
IsPlaced bytes (NotProgram place) = Longest program_blob.Run (from 0 bytes) place
IsPlaced bytes NoMemory = Unit {0}
