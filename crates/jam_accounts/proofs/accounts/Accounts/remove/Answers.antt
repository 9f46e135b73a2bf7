use Rattle.std.proofs.Common.{ap, sym, ◌∙◌, ℕ}
use Rattle.std.specs.Ordering.{nat_cmp}
use Rattle.std.specs.FinMap as fin
use Rattle.std.specs.Cmp.{nat_cmp_total}
use Rattle.std.specs.FinMap.{nat_cmp-IsAntisymmetric}
use Rattle.std.proofs.lemmas.Iterator.Adapters.{option_map_id}
use Rattle.jam_accounts.specs.Accounts.{Account}
use Rattle.jam_accounts.specs.MapLaws.{got, removed}
use Rattle.jam_accounts.proofs.accounts.Accounts.remove.Goals as goal

pub returns-clause-value : goal.returns-clause-value
returns-clause-value c = c.remove.ensures.value ∙ sym (option_map_id _) ∙ sym (got nat_cmp (λ (k : ℕ). k) (λ (v : Account). v) nat_cmp_total c.self.inside.map c.args.id) ∙ ap (λ m. fin.get m c.args.id) c.self.view_is

pub returns-clause-after : goal.returns-clause-after
returns-clause-after c =
    removed nat_cmp (λ (k : ℕ). k) (λ (v : Account). v) nat_cmp_total nat_cmp-IsAntisymmetric c.self.inside.map c.remove.new.self c.args.id c.remove.ensures.updates
    ∙ ap (λ m. fin.remove m c.args.id) c.self.view_is
