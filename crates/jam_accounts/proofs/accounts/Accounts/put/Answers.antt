use Rattle.std.proofs.Common.{ap, sym, ◌∙◌, ℕ}
use Rattle.std.specs.Ordering.{nat_cmp}
use Rattle.std.specs.FinMap as fin
use Rattle.std.specs.Cmp.{nat_cmp_total}
use Rattle.std.specs.FinMap.{nat_cmp-IsAntisymmetric}
use Rattle.jam_accounts.specs.Accounts.{Account}
use Rattle.jam_accounts.specs.MapLaws.{on_err, nothing_seen, inserted}
use Rattle.jam_accounts.proofs.accounts.Accounts.put.Goals as goal

pub returns-clause-ok : goal.returns-clause-ok
returns-clause-ok c =
    inserted nat_cmp (λ (k : ℕ). k) (λ (v : Account). v) nat_cmp_total nat_cmp-IsAntisymmetric c.self.inside.map c.insert.new.self c.args.id c.args.account c.in_ok-insert.ensures.entries
    ∙ ap (λ m. fin.insert m c.args.id c.args.account) c.self.view_is

pub returns-in_err-insert-clause-absent : goal.returns-in_err-insert-clause-absent
returns-in_err-insert-clause-absent c =
    on_err c.from_residual.result (sym (ap (λ m. fin.get m c.args.id) c.self.view_is) ∙ nothing_seen nat_cmp (λ (k : ℕ). k) (λ (v : Account). v) nat_cmp_total c.self.inside.map c.args.id c.in_err-insert.ensures.absent)
