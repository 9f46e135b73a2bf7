use Rattle.std.proofs.Common.{◌≡◌, [], length}
use Rattle.jam_accounts.specs.Seen.{seen_entries}
use Rattle.account_overlay.specs.Layers.{changed, dropped}
use Rattle.account_overlay.specs.Parts.{preimages_of}
use Rattle.account_overlay.proofs.Overs.{IsUntouched}
use Rattle.account_overlay.proofs.kept.preimages_after.Given as goal

-- what is left, taken into the map, gives the map now
abbrev pub invariant-loop-place : goal.invariant-loop-place
invariant-loop-place l = record {
  taken : changed l.fn.base l.preimages (seen_entries (λ k. k) dropped l.places.entries) ≡ (preimages_of l.fn.base l.fn.places.entries []).now;
  untouched : IsUntouched (λ k. k) dropped l.fn.base l.places l.preimages;
}

abbrev pub decreases-loop-place : goal.decreases-loop-place
decreases-loop-place l = length l.places.entries
