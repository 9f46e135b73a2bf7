use Rattle.std.proofs.Common.{true, false, None, refl, ◌∙◌}
use Rattle.std.specs.Cmp.Lexicographic.{nat_list_cmp_total}
use Rattle.std.specs.FinMap as fin
use Rattle.jam_accounts.specs.MapLaws.{bytes_same}
use Rattle.account_overlay.specs.Layers.{dropped}
use Rattle.account_overlay.proofs.Overs.{set_halves, at_itself, both_ok}
use Rattle.account_overlay.proofs.kept.KeptPreimages.drop.Goals as goal

pub set-requires : goal.set-requires
set-requires c = at_itself nat_list_cmp_total c.args.hash.now c.args.hash.now refl

pub returns-clause-ok : goal.returns-clause-ok
returns-clause-ok c =
    let old = c.self.inside.layer in
    both_ok c.set.result c.set.ensures.places c.set.ensures.journal (λ places journal.
    set_halves nat_list_cmp_total bytes_same (λ k. k) dropped c.self.inside.base.now old.places.entries c.set.new.self.places.entries old.journal.items c.set.new.self.journal.items
    c.args.hash.now c.args.hash.now true false refl refl places journal None refl
    ∙ (λ i. record { now = fin.remove (c.self.view_is i).now c.args.hash.now; saved = (c.self.view_is i).saved }))
