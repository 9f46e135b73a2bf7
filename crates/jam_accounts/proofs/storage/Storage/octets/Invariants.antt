use Rattle.std.proofs.Common.{◌≡◌, ◌+◌, ◌<◌, ◌^◌}
use Rattle.std.specs.List.{sum_by}
use Rattle.jam_accounts.specs.Footprint.{value_octets, storage_octets}
use Rattle.jam_accounts.proofs.storage.Storage.octets.Given as goal

abbrev pub invariant-loop-key : goal.invariant-loop-key
invariant-loop-key l = record {
  sum : l.octets + sum_by value_octets l.key-iterator ≡ storage_octets l.self;
  low : l.octets < 2 ^ 100;
}
