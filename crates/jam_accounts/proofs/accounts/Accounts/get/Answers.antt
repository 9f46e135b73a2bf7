use Rattle.std.proofs.Common.{ap, sym, ◌∙◌, ℕ}
use Rattle.std.specs.Ordering.{nat_cmp}
use Rattle.std.specs.FinMap as fin
use Rattle.std.specs.Cmp.{nat_cmp_total}
use Rattle.std.proofs.lemmas.Iterator.Adapters.{option_map_id}
use Rattle.jam_accounts.specs.Accounts.{Account}
use Rattle.jam_accounts.specs.MapLaws.{got}
use Rattle.jam_accounts.proofs.accounts.Accounts.get.Goals as goal

pub returns : goal.returns
returns c =
    c.get.ensures.value
    ∙ sym (option_map_id _) ∙ sym (got nat_cmp (λ (k : ℕ). k) (λ (v : Account). v) nat_cmp_total c.self.inside.map c.args.id) ∙ ap (λ m. fin.get m c.args.id) c.self.view_is
