use Rattle.std.proofs.Common.{ap, ◌∙◌, ℕ}
use Rattle.std.specs.Ordering.{nat_cmp}
use Rattle.std.specs.FinMap as fin
use Rattle.std.specs.Cmp.{nat_cmp_total}
use Rattle.jam_accounts.specs.Accounts.{Account}
use Rattle.jam_accounts.specs.MapLaws.{length_seen}
use Rattle.jam_accounts.proofs.accounts.Accounts.len.Goals as goal

pub returns-clause-count : goal.returns-clause-count
returns-clause-count c = c.len.ensures.len ∙ length_seen nat_cmp (λ (k : ℕ). k) (λ (v : Account). v) nat_cmp_total c.self.inside.map c.len.ensures.ordered ∙ ap fin.len c.self.view_is
