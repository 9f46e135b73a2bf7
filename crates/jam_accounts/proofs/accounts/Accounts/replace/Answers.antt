use Rattle.std.proofs.Common.{ap, sym, ◌∙◌, ℕ}
use Rattle.std.specs.Ordering.{nat_cmp}
use Rattle.std.specs.FinMap as fin
use Rattle.std.specs.Cmp.{nat_cmp_total}
use Rattle.std.specs.FinMap.{nat_cmp-IsAntisymmetric}
use Rattle.std.proofs.lemmas.Iterator.Adapters.{option_map_id}
use Rattle.jam_accounts.specs.Accounts.{Account}
use Rattle.jam_accounts.specs.MapLaws.{got, inserted, something_seen}
use Rattle.jam_accounts.proofs.accounts.Accounts.replace.Goals as goal

pub unreachable-requires : goal.unreachable-requires
unreachable-requires c = something_seen nat_cmp (λ (k : ℕ). k) (λ (v : Account). v) nat_cmp_total c.self.inside.map c.args.id c.args.self.now c.self.view_is c.requires (sym c.in-Ok-None.ensures.old ∙ c.in-Ok-None.field-0-is)

pub unreachable-requires-in-Err : goal.unreachable-requires-in-Err
unreachable-requires-in-Err c = something_seen nat_cmp (λ (k : ℕ). k) (λ (v : Account). v) nat_cmp_total c.self.inside.map c.args.id c.args.self.now c.self.view_is c.requires c.in-Err.ensures.absent

pub returns-clause-value : goal.returns-clause-value
returns-clause-value c =
    sym c.in-Ok-Some.field-0-is ∙ c.in-Ok-Some.ensures.old
    ∙ sym (option_map_id _) ∙ sym (got nat_cmp (λ (k : ℕ). k) (λ (v : Account). v) nat_cmp_total c.self.inside.map c.args.id) ∙ ap (λ m. fin.get m c.args.id) c.self.view_is

pub returns-clause-after : goal.returns-clause-after
returns-clause-after c =
    inserted nat_cmp (λ (k : ℕ). k) (λ (v : Account). v) nat_cmp_total nat_cmp-IsAntisymmetric c.self.inside.map c.insert.new.self c.args.id c.args.account c.in-Ok-Some.ensures.entries
    ∙ ap (λ m. fin.insert m c.args.id c.args.account) c.self.view_is
