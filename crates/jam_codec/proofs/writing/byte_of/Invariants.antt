use Rattle.std.proofs.Common.{◌≡◌, ◌≤◌, length, drop}
use Rattle.jam_codec.specs.Spelling.{binary_number}
use Rattle.jam_codec.proofs.writing.byte_of.Given as goal

abbrev pub invariant-loop-place : goal.invariant-loop-place
invariant-loop-place l = record {
  within : l.place ≤ length l.bits;
  number : l.byte ≡ binary_number (drop l.place l.bits);
}

abbrev pub decreases-loop-place : goal.decreases-loop-place
decreases-loop-place l = l.place
