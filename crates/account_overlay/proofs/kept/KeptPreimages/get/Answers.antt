use Rattle.std.proofs.Common.{Some, None, true, false, ap, sym, ◌∙◌}
use Rattle.std.specs.Cmp.Lexicographic.{nat_list_cmp_total}
use Rattle.std.specs.FinMap as fin
use Rattle.jam_accounts.specs.Accounts.{Preimages}
use Rattle.jam_accounts.specs.MapLaws.{bytes_same}
use Rattle.account_overlay.specs.Layers.{Halves, dropped}
use Rattle.account_overlay.proofs.Overs.{got}
use Rattle.account_overlay.proofs.kept.KeptPreimages.get.Goals as goal

pub returns-in-Some-true : goal.returns-in-Some-true
returns-in-Some-true c =
    got nat_list_cmp_total bytes_same (λ k. k) dropped c.self.inside.base.now c.self.inside.layer.places.entries c.args.hash.now (Some true) (ap Some (sym c.in-Some-true.field-0-test) ∙ c.in-Some-true.ensures.value)
    ∙ ap (λ (h : Halves Preimages). fin.get h.now c.args.hash.now) c.self.view_is

pub returns-in-Some-false : goal.returns-in-Some-false
returns-in-Some-false c =
    c.get-in-Some-false.ensures.value
    ∙ got nat_list_cmp_total bytes_same (λ k. k) dropped c.self.inside.base.now c.self.inside.layer.places.entries c.args.hash.now (Some false) (ap Some (sym c.in-Some-false.field-0-test) ∙ c.in-Some-false.ensures.value)
    ∙ ap (λ (h : Halves Preimages). fin.get h.now c.args.hash.now) c.self.view_is

pub returns-in-None : goal.returns-in-None
returns-in-None c =
    c.get-in-None.ensures.value
    ∙ got nat_list_cmp_total bytes_same (λ k. k) dropped c.self.inside.base.now c.self.inside.layer.places.entries c.args.hash.now None c.in-None.ensures.value
    ∙ ap (λ (h : Halves Preimages). fin.get h.now c.args.hash.now) c.self.view_is
