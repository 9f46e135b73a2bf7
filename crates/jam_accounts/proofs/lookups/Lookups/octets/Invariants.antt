use Rattle.std.proofs.Common.{◌≡◌, ◌+◌, ◌<◌, ◌^◌}
use Rattle.std.specs.List.{sum_by}
use Rattle.jam_accounts.specs.Footprint.{history_octets, lookups_octets}
use Rattle.jam_accounts.proofs.lookups.Lookups.octets.Given as goal

abbrev pub invariant-loop-hash : goal.invariant-loop-hash
invariant-loop-hash l = record {
  sum : l.octets + sum_by history_octets l._hash-iterator ≡ lookups_octets l.self;
  low : l.octets < 2 ^ 100;
}
