use Rattle.std.proofs.Common.{◌≡◌, length}
use Rattle.blob_decode.specs.Kept.{ArePlaces}
use Rattle.blob_decode.proofs.program.Program.all_places.Given as goal

abbrev pub invariant-each : goal.invariant-each
invariant-each l = record {
  all : length l.places.items ≡ l.place;
  kept : ArePlaces l.self l.places.items;
}
