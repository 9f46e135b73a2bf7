use Rattle.std.proofs.Common.{◌≡◌, sym, subst, Vec, ℕ, List, Global}
use Rattle.std.specs.FinMap as fin
use Rattle.blake2b_core.specs.Blake2b.{digest}
use Rattle.jam_accounts.specs.Accounts.{StandUnderDigests, bytes_cmp}
use Rattle.jam_accounts.specs.Seen.{seen_entries}
use Rattle.jam_accounts.specs.MapLaws.{of_none}
use Rattle.jam_accounts.proofs.preimages.Preimages.new.Goals as goal

pub invariant_of-result : goal.invariant_of-result
invariant_of-result c = subst (λ es. StandUnderDigests (fin.from_entries (seen_entries (λ (k : List ℕ). k) (λ (v : Vec ℕ Global). v.items) es))) (sym c.new.ensures.empty) (of_none bytes_cmp (λ (hash bytes : List ℕ). hash ≡ digest bytes))
