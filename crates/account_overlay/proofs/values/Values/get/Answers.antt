use Rattle.std.proofs.Common.{Some, None, ap, sym, ◌∙◌}
use Rattle.std.specs.Cmp.Lexicographic.{nat_list_cmp_total}
use Rattle.std.specs.FinMap as fin
use Rattle.jam_accounts.specs.Accounts.{Storage}
use Rattle.jam_accounts.specs.MapLaws.{bytes_same}
use Rattle.account_overlay.specs.declared.layer.Change.TheVariants.{AsBase, Gone, Is}
use Rattle.account_overlay.specs.Layers.{Halves, seen_change}
use Rattle.account_overlay.proofs.Overs.{got}
use Rattle.account_overlay.proofs.values.Values.get.Goals as goal

pub returns-in-Some-Is : goal.returns-in-Some-Is
returns-in-Some-Is c =
    ap Some c.as_slice.ensures.value
    ∙ got nat_list_cmp_total bytes_same (λ k. k.items) (seen_change (λ v. v.items)) c.self.inside.base.now c.self.inside.layer.places.entries c.args.key.now (Some (Is c.in-Some-Is.value)) (ap Some (sym c.in-Some-Is.field-0-is) ∙ c.in-Some-Is.ensures.value)
    ∙ ap (λ (h : Halves Storage). fin.get h.now c.args.key.now) c.self.view_is

pub returns-in-Some-Gone : goal.returns-in-Some-Gone
returns-in-Some-Gone c =
    got nat_list_cmp_total bytes_same (λ k. k.items) (seen_change (λ v. v.items)) c.self.inside.base.now c.self.inside.layer.places.entries c.args.key.now (Some Gone) (ap Some (sym c.in-Some-Gone.field-0-is) ∙ c.in-Some-Gone.ensures.value)
    ∙ ap (λ (h : Halves Storage). fin.get h.now c.args.key.now) c.self.view_is

pub returns-in-Some-AsBase : goal.returns-in-Some-AsBase
returns-in-Some-AsBase c =
    c.get-in-Some-AsBase.ensures
    ∙ got nat_list_cmp_total bytes_same (λ k. k.items) (seen_change (λ v. v.items)) c.self.inside.base.now c.self.inside.layer.places.entries c.args.key.now (Some AsBase) (ap Some (sym c.in-Some-AsBase.field-0-is) ∙ c.in-Some-AsBase.ensures.value)
    ∙ ap (λ (h : Halves Storage). fin.get h.now c.args.key.now) c.self.view_is

pub returns-in-None : goal.returns-in-None
returns-in-None c =
    c.get-in-None.ensures
    ∙ got nat_list_cmp_total bytes_same (λ k. k.items) (seen_change (λ v. v.items)) c.self.inside.base.now c.self.inside.layer.places.entries c.args.key.now None c.in-None.ensures.value
    ∙ ap (λ (h : Halves Storage). fin.get h.now c.args.key.now) c.self.view_is
