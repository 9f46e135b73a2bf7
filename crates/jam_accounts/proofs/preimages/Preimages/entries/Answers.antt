use Rattle.std.proofs.Common.{ap, sym, subst, ◌∙◌, Vec, ℕ, List, Global}
use Rattle.std.specs.FinMap as fin
use Rattle.std.specs.Cmp.Lexicographic.{nat_list_cmp_total}
use Rattle.jam_accounts.specs.Seen.{seen_entries}
use Rattle.jam_accounts.specs.Accounts.{bytes_cmp, StandUnderDigests}
use Rattle.jam_accounts.specs.MapLaws.{entries_seen}
use Rattle.jam_accounts.proofs.preimages.Preimages.entries.Goals as goal

pub returns-clause-entries : goal.returns-clause-entries
returns-clause-entries c =
    ap (seen_entries (λ (k : List ℕ). k) (λ (v : Vec ℕ Global). v.items)) c.iter.ensures.rest
    ∙ sym (entries_seen bytes_cmp (λ (k : List ℕ). k) (λ (v : Vec ℕ Global). v.items) nat_list_cmp_total c.self.inside.map c.iter.ensures.ordered)
    ∙ ap fin.entries c.self.view_is

pub returns-clause-stand : goal.returns-clause-stand
returns-clause-stand c = subst StandUnderDigests c.self.view_is c.self.invariant
