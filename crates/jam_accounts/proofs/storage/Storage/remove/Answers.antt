use Rattle.std.proofs.Common.{ap, sym, ◌∙◌, option_map, Vec, ℕ, Global}
use Rattle.std.specs.FinMap as fin
use Rattle.std.specs.Cmp.Lexicographic.{nat_list_cmp_total}
use Rattle.jam_accounts.specs.Accounts.{bytes_cmp}
use Rattle.jam_accounts.specs.MapLaws.{got, removed, bytes_same}
use Rattle.jam_accounts.proofs.storage.Storage.remove.Goals as goal

pub returns-clause-value : goal.returns-clause-value
returns-clause-value c =
    ap (option_map (λ (v : Vec ℕ Global). v.items)) c.remove.ensures.value
    ∙ sym (got bytes_cmp (λ (k : Vec ℕ Global). k.items) (λ (v : Vec ℕ Global). v.items) nat_list_cmp_total c.self.inside.map c.args.key.now)
    ∙ ap (λ m. fin.get m c.args.key.now) c.self.view_is

pub returns-clause-after : goal.returns-clause-after
returns-clause-after c =
    removed bytes_cmp (λ (k : Vec ℕ Global). k.items) (λ (v : Vec ℕ Global). v.items) nat_list_cmp_total bytes_same c.self.inside.map c.remove.new.self c.args.key.now c.remove.ensures.updates
    ∙ ap (λ m. fin.remove m c.args.key.now) c.self.view_is
