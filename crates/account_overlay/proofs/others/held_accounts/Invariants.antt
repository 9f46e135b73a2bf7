use Rattle.std.proofs.Common.{◌≡◌, [], length}
use Rattle.std.specs.FinMap as fin
use Rattle.jam_accounts.specs.Seen.{seen_entries}
use Rattle.account_overlay.specs.Layers.{changed, seen_change}
use Rattle.account_overlay.specs.Others.{accounts_of}
use Rattle.account_overlay.proofs.Overs.{IsUntouched}
use Rattle.account_overlay.proofs.others.held_accounts.Given as goal

-- what is left, taken into the map, gives the whole map
abbrev pub invariant-loop-id : goal.invariant-loop-id
invariant-loop-id l = record {
  taken : changed fin.empty l.accounts (seen_entries (λ k. k) (seen_change (λ a. a)) l.places.entries) ≡ (accounts_of fin.empty l.fn.places.entries []).now;
  untouched : IsUntouched (λ k. k) (seen_change (λ a. a)) fin.empty l.places l.accounts;
}

abbrev pub decreases-loop-id : goal.decreases-loop-id
decreases-loop-id l = length l.places.entries
