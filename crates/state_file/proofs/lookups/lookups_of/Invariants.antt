use Rattle.std.proofs.Common.{◌≡◌, ◌≤◌, ◌*◌, ◌+◌, ◌^◌, ◌++◌, length}
use Rattle.std.specs.FinMap as fin
use Rattle.jam_accounts.specs.Footprint.{lookups_octets}
use Rattle.state_file.proofs.lookups.lookups_of.Given as goal

abbrev pub invariant-loop-key : goal.invariant-loop-key
invariant-loop-key l = record {
  made : fin.entries l.lookups ++ l.key-iterator.rest.items ≡ l.fn.entries.items;
  small : lookups_octets l.lookups ≤ (81 + 2 ^ 32) * length (fin.entries l.lookups);
}
