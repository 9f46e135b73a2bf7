use Rattle.std.proofs.Common.{ℕ, List, refl, ap, ◌∙◌}
use Rattle.std.specs.FinMap as fin
use Rattle.std.proofs.lemmas.Iterator.Adapters.{option_map_id}
use Rattle.jam_codec.specs.FormatLaws.{hash_and_number_total}
use Rattle.jam_accounts.specs.MapLaws.{lookups_same}
use Rattle.account_overlay.specs.declared.layer.Change.TheVariants.{AsBase}
use Rattle.account_overlay.specs.Layers.{seen_change, with_value, held}
use Rattle.account_overlay.proofs.Overs.{set_halves, held_becomes, at_itself, both_ok}
use Rattle.account_overlay.proofs.histories.Histories.set.Goals as goal

pub set-requires : goal.set-requires
set-requires c = at_itself hash_and_number_total (c.args.hash.now, c.args.length) (c.args.hash.now, c.args.length) refl

pub returns-clause-ok : goal.returns-clause-ok
returns-clause-ok c =
    let old = c.self.inside.layer in
    let base = c.self.inside.base.now in
    let key : List ℕ × ℕ = (c.args.hash.now, c.args.length) in
    let stands = ap (λ change. held (seen_change (λ v. v) change) (fin.get base key)) c.to.ensures ∙ held_becomes (λ v. v) c.args.history (fin.get base key) ∙ option_map_id c.args.history in
    both_ok c.set.result c.set.ensures.places c.set.ensures.journal (λ places journal.
    set_halves hash_and_number_total lookups_same (λ k. k) (seen_change (λ v. v)) base old.places.entries c.set.new.self.places.entries old.journal.items c.set.new.self.journal.items
    key key c.to.result AsBase refl refl places journal c.args.history stands
    ∙ (λ i. record { now = with_value (c.self.view_is i).now key c.args.history; saved = (c.self.view_is i).saved }))
