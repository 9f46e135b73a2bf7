use Rattle.std.proofs.Common.{ap, sym, ◌∙◌, Vec, ℕ, Global}
use Rattle.std.specs.FinMap as fin
use Rattle.std.specs.Cmp.Lexicographic.{nat_list_cmp_total}
use Rattle.jam_accounts.specs.Accounts.{bytes_cmp}
use Rattle.jam_accounts.specs.Seen.{seen_entries}
use Rattle.jam_accounts.specs.MapLaws.{entries_seen}
use Rattle.jam_accounts.proofs.storage.Storage.entries.Goals as goal

pub returns : goal.returns
returns c =
    ap (seen_entries (λ (k : Vec ℕ Global). k.items) (λ (v : Vec ℕ Global). v.items)) c.iter.ensures.rest
    ∙ sym (entries_seen bytes_cmp (λ (k : Vec ℕ Global). k.items) (λ (v : Vec ℕ Global). v.items) nat_list_cmp_total c.self.inside.map c.iter.ensures.ordered)
    ∙ ap fin.entries c.self.view_is
