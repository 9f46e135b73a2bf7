use Rattle.std.proofs.Common.{◌≡◌, [], length}
use Rattle.jam_accounts.specs.Seen.{seen_entries}
use Rattle.account_overlay.specs.Layers.{changed, seen_change}
use Rattle.account_overlay.specs.Parts.{values_of}
use Rattle.account_overlay.proofs.Overs.{IsUntouched}
use Rattle.account_overlay.proofs.values.storage_after.Given as goal

-- what is left, taken into the map, gives the map now
abbrev pub invariant-loop-key : goal.invariant-loop-key
invariant-loop-key l = record {
  taken : changed l.fn.base l.storage (seen_entries (λ k. k.items) (seen_change (λ v. v.items)) l.places.entries) ≡ (values_of l.fn.base l.fn.places.entries []).now;
  untouched : IsUntouched (λ k. k.items) (seen_change (λ v. v.items)) l.fn.base l.places l.storage;
}

abbrev pub decreases-loop-key : goal.decreases-loop-key
decreases-loop-key l = length l.places.entries
