-- Why bytes have no listing.
use Rattle.std.specs.Prelude.{ℕ, List}
use Rattle.jam_codec.specs.Format.{from}
use Rattle.jam_codec.specs.Laws.{Longest}
use Rattle.blob_decode.specs.Program.{program_blob}
use Rattle.pvm_disasm.specs.declared.listing.ListRefusal.{ListRefusal}
use Rattle.pvm_disasm.specs.declared.listing.ListRefusal.TheVariants.{NotProgram, NoMemory}

-- what is no program blob is refused where its longest run of whole fields ends
abbrev pub IsPlacedList : List ℕ → ListRefusal → Type 0
IsPlacedList bytes (NotProgram place) = Longest program_blob.Run (from 0 bytes) place
IsPlacedList bytes NoMemory = Unit {0}
