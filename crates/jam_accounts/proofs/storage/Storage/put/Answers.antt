use Rattle.std.proofs.Common.{ap, sym, ◌∙◌, Vec, ℕ, Global}
use Rattle.std.specs.FinMap as fin
use Rattle.std.specs.Cmp.Lexicographic.{nat_list_cmp_total}
use Rattle.jam_accounts.specs.Accounts.{bytes_cmp}
use Rattle.jam_accounts.specs.MapLaws.{on_err, nothing_seen, inserted, bytes_same}
use Rattle.jam_accounts.proofs.storage.Storage.put.Goals as goal

pub returns-clause-ok : goal.returns-clause-ok
returns-clause-ok c =
    inserted bytes_cmp (λ (k : Vec ℕ Global). k.items) (λ (v : Vec ℕ Global). v.items) nat_list_cmp_total bytes_same c.self.inside.map c.insert.new.self c.args.key c.args.value c.in_ok-insert.ensures.entries
    ∙ ap (λ m. fin.insert m c.args.key.items c.args.value.items) c.self.view_is

pub returns-in_err-insert-clause-absent : goal.returns-in_err-insert-clause-absent
returns-in_err-insert-clause-absent c =
    on_err c.from_residual.result (sym (ap (λ m. fin.get m c.args.key.items) c.self.view_is) ∙ nothing_seen bytes_cmp (λ (k : Vec ℕ Global). k.items) (λ (v : Vec ℕ Global). v.items) nat_list_cmp_total c.self.inside.map c.args.key c.in_err-insert.ensures.absent)
