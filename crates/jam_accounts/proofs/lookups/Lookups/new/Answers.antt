use Rattle.std.proofs.Common.{sym, subst, ℕ, List, ◌<◌, ◌^◌}
use Rattle.std.specs.FinMap as fin
use Rattle.jam_accounts.specs.Seen.{seen_entries}
use Rattle.jam_codec.specs.Lists.{hash_and_number_cmp}
use Rattle.jam_accounts.specs.Accounts.{HaveShortLengths}
use Rattle.jam_accounts.specs.MapLaws.{of_none}
use Rattle.jam_accounts.proofs.lookups.Lookups.new.Goals as goal

pub invariant_of-result : goal.invariant_of-result
invariant_of-result c = subst (λ es. HaveShortLengths (fin.from_entries (seen_entries (λ (k : List ℕ × ℕ). k) (λ (v : List ℕ). v) es))) (sym c.new.ensures.empty) (of_none hash_and_number_cmp (λ (key : List ℕ × ℕ) (history : List ℕ). key.1 < 2 ^ 32))
