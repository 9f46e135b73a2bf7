use Rattle.std.proofs.Common.{ap, ◌∙◌, ◌++◌, ◌∷◌, []}
use Rattle.account_overlay.proofs.Places.{set_covered}
use Rattle.account_overlay.proofs.layer.Layer.set.Goals as goal

pub returns-clause-covered : goal.returns-clause-covered
returns-clause-covered g c covered =
    set_covered g.K.Ord.cmp c.args.self.now.places.entries c.insert.new.self.entries c.args.self.now.journal.items c.push.new.self.items c.args.place c.args.key c.args.held c.match-branch-3.before c.requires
    c.in_ok-before.ensures.updates.0 (c.in_ok-push.ensures.items ∙ ap (λ js. js ++ (c.args.key, c.match-branch-3.before) ∷ []) c.reserve.ensures.items) covered
