use Rattle.std.proofs.Common.{◌-◌, ◌≤◌}
use Rattle.jam_codec.specs.Reading.{least_with}
use Rattle.jam_codec.proofs.writing.tail_for.Given as goal

abbrev pub invariant-loop-length : goal.invariant-loop-length
invariant-loop-length l = record {
  most : l.length ≤ 8;
  least : least_with l.length ≤ l.x;
}

abbrev pub decreases-loop-length : goal.decreases-loop-length
decreases-loop-length l = 8 - l.length
