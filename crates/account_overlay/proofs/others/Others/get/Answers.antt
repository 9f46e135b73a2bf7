use Rattle.std.proofs.Common.{Some, None, ap, sym, ◌∙◌}
use Rattle.std.specs.Cmp.{nat_cmp_total}
use Rattle.std.specs.FinMap as fin
use Rattle.std.specs.FinMap.{nat_cmp-IsAntisymmetric}
use Rattle.account_overlay.specs.declared.layer.Change.TheVariants.{AsBase, Gone, Is}
use Rattle.account_overlay.specs.Layers.{seen_change}
use Rattle.account_overlay.specs.Others.{AccountsOver}
use Rattle.account_overlay.proofs.Overs.{got}
use Rattle.account_overlay.proofs.others.Others.get.Goals as goal

pub returns-in-Some-Is : goal.returns-in-Some-Is
returns-in-Some-Is c = ap Some c.account.ensures ∙ got nat_cmp_total nat_cmp-IsAntisymmetric (λ k. k) (seen_change (λ a. a)) c.self.inside.base.now c.self.inside.layer.places.entries c.args.id (Some (Is c.in-Some-Is.counted)) (ap Some (sym c.in-Some-Is.field-0-is) ∙ c.in-Some-Is.ensures.value) ∙ ap (λ (o : AccountsOver). fin.get o.now c.args.id) c.self.view_is

pub returns-in-Some-Gone : goal.returns-in-Some-Gone
returns-in-Some-Gone c = got nat_cmp_total nat_cmp-IsAntisymmetric (λ k. k) (seen_change (λ a. a)) c.self.inside.base.now c.self.inside.layer.places.entries c.args.id (Some Gone) (ap Some (sym c.in-Some-Gone.field-0-is) ∙ c.in-Some-Gone.ensures.value) ∙ ap (λ (o : AccountsOver). fin.get o.now c.args.id) c.self.view_is

pub returns-in-Some-AsBase : goal.returns-in-Some-AsBase
returns-in-Some-AsBase c = c.get-in-Some-AsBase.ensures ∙ got nat_cmp_total nat_cmp-IsAntisymmetric (λ k. k) (seen_change (λ a. a)) c.self.inside.base.now c.self.inside.layer.places.entries c.args.id (Some AsBase) (ap Some (sym c.in-Some-AsBase.field-0-is) ∙ c.in-Some-AsBase.ensures.value) ∙ ap (λ (o : AccountsOver). fin.get o.now c.args.id) c.self.view_is

pub returns-in-None : goal.returns-in-None
returns-in-None c = c.get-in-None.ensures ∙ got nat_cmp_total nat_cmp-IsAntisymmetric (λ k. k) (seen_change (λ a. a)) c.self.inside.base.now c.self.inside.layer.places.entries c.args.id None c.in-None.ensures.value ∙ ap (λ (o : AccountsOver). fin.get o.now c.args.id) c.self.view_is
