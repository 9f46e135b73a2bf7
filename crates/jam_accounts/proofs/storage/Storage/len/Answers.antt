use Rattle.std.proofs.Common.{ap, ◌∙◌, Vec, ℕ, Global}
use Rattle.std.specs.FinMap as fin
use Rattle.std.specs.Cmp.Lexicographic.{nat_list_cmp_total}
use Rattle.jam_accounts.specs.Accounts.{bytes_cmp}
use Rattle.jam_accounts.specs.MapLaws.{length_seen}
use Rattle.jam_accounts.proofs.storage.Storage.len.Goals as goal

pub returns-clause-count : goal.returns-clause-count
returns-clause-count c = c.len.ensures.len ∙ length_seen bytes_cmp (λ (k : Vec ℕ Global). k.items) (λ (v : Vec ℕ Global). v.items) nat_list_cmp_total c.self.inside.map c.len.ensures.ordered ∙ ap fin.len c.self.view_is
