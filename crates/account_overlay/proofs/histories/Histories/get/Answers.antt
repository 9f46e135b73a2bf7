use Rattle.std.proofs.Common.{Some, None, ap, sym, ◌∙◌}
use Rattle.std.specs.FinMap as fin
use Rattle.jam_codec.specs.FormatLaws.{hash_and_number_total}
use Rattle.jam_accounts.specs.Accounts.{Lookups}
use Rattle.jam_accounts.specs.MapLaws.{lookups_same}
use Rattle.account_overlay.specs.declared.layer.Change.TheVariants.{AsBase, Gone, Is}
use Rattle.account_overlay.specs.Layers.{Halves, seen_change}
use Rattle.account_overlay.proofs.Overs.{got}
use Rattle.account_overlay.proofs.histories.Histories.get.Goals as goal

pub returns-in-Some-Is : goal.returns-in-Some-Is
returns-in-Some-Is c =
    got hash_and_number_total lookups_same (λ k. k) (seen_change (λ v. v)) c.self.inside.base.now c.self.inside.layer.places.entries (c.args.hash.now, c.args.length) (Some (Is c.in-Some-Is.history)) (ap Some (sym c.in-Some-Is.field-0-is) ∙ c.in-Some-Is.ensures.value)
    ∙ ap (λ (h : Halves Lookups). fin.get h.now (c.args.hash.now, c.args.length)) c.self.view_is

pub returns-in-Some-Gone : goal.returns-in-Some-Gone
returns-in-Some-Gone c =
    got hash_and_number_total lookups_same (λ k. k) (seen_change (λ v. v)) c.self.inside.base.now c.self.inside.layer.places.entries (c.args.hash.now, c.args.length) (Some Gone) (ap Some (sym c.in-Some-Gone.field-0-is) ∙ c.in-Some-Gone.ensures.value)
    ∙ ap (λ (h : Halves Lookups). fin.get h.now (c.args.hash.now, c.args.length)) c.self.view_is

pub returns-in-Some-AsBase : goal.returns-in-Some-AsBase
returns-in-Some-AsBase c =
    c.get-in-Some-AsBase.ensures
    ∙ got hash_and_number_total lookups_same (λ k. k) (seen_change (λ v. v)) c.self.inside.base.now c.self.inside.layer.places.entries (c.args.hash.now, c.args.length) (Some AsBase) (ap Some (sym c.in-Some-AsBase.field-0-is) ∙ c.in-Some-AsBase.ensures.value)
    ∙ ap (λ (h : Halves Lookups). fin.get h.now (c.args.hash.now, c.args.length)) c.self.view_is

pub returns-in-None : goal.returns-in-None
returns-in-None c =
    c.get-in-None.ensures
    ∙ got hash_and_number_total lookups_same (λ k. k) (seen_change (λ v. v)) c.self.inside.base.now c.self.inside.layer.places.entries (c.args.hash.now, c.args.length) None c.in-None.ensures.value
    ∙ ap (λ (h : Halves Lookups). fin.get h.now (c.args.hash.now, c.args.length)) c.self.view_is
