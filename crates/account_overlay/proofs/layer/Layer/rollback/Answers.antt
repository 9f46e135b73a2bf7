use Rattle.std.proofs.Common.{subst}
use Rattle.account_overlay.specs.Layers.{Covered}
use Rattle.account_overlay.proofs.Places.{keeps_covered, covered_front, covered_last, put_back_rest}
use Rattle.account_overlay.proofs.layer.Layer.rollback.Goals as goal

pub put_back-requires : goal.put_back-requires
put_back-requires g c =
    let cmp = g.K.Ord.cmp in
    let places = c.loop-key.self.places.entries in
    covered_last cmp places c.pop.new.self.items (c.in-Some.key, c.in-Some.held) (subst (Covered cmp places) c.in-Some.ensures.items c.loop-key.invariant.covered)

pub loop-key-preserved : goal.loop-key-preserved
loop-key-preserved g c =
    let cmp = g.K.Ord.cmp in
    let places = c.loop-key.self.places.entries in
    let left = c.pop.new.self.items in
    record {
      covered = keeps_covered cmp places c.put_back.new.places.entries left c.put_back.ensures.kept (covered_front cmp places left (c.in-Some.key, c.in-Some.held) (subst (Covered cmp places) c.in-Some.ensures.items c.loop-key.invariant.covered));
      rest = put_back_rest cmp places c.put_back.new.places.entries c.loop-key.self.journal.items left (c.in-Some.key, c.in-Some.held) _ c.put_back.ensures.entries c.in-Some.ensures.items c.loop-key.invariant.rest;
    }
