use Rattle.std.proofs.Common.{ap, sym, ◌∙◌, ℕ}
use Rattle.std.specs.Ordering.{nat_cmp}
use Rattle.std.specs.FinMap as fin
use Rattle.std.specs.Cmp.{nat_cmp_total}
use Rattle.jam_accounts.specs.Seen.{seen_entries}
use Rattle.jam_accounts.specs.Accounts.{Account}
use Rattle.jam_accounts.specs.MapLaws.{entries_seen}
use Rattle.jam_accounts.proofs.accounts.Accounts.entries.Goals as goal

pub returns : goal.returns
returns c =
    ap (seen_entries (λ (k : ℕ). k) (λ (v : Account). v)) c.iter.ensures.rest
    ∙ sym (entries_seen nat_cmp (λ (k : ℕ). k) (λ (v : Account). v) nat_cmp_total c.self.inside.map c.iter.ensures.ordered)
    ∙ ap fin.entries c.self.view_is
