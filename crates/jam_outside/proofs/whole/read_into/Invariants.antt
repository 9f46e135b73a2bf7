use Rattle.std.proofs.Common.{◌≡◌, ◌+◌, ◌-◌, ◌≤◌}
use Rattle.jam_outside.specs.Progress.{IsReadTo}
use Rattle.jam_outside.proofs.whole.read_into.Given as goal

abbrev pub invariant-reads : goal.invariant-reads
invariant-reads g l = record {
  within : l.place ≤ l.limit + 1;
  read : IsReadTo (g.T.Take.Took l.into) (g.V.Vault.state l.fn.vault).files l.name l.place;
  state : g.V.Vault.state l.vault ≡ g.V.Vault.state l.fn.vault;
}

-- the bytes that may still be taken
abbrev pub decreases-reads : goal.decreases-reads
decreases-reads g l = l.limit + 1 - l.place
