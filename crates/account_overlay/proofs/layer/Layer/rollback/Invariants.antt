use Rattle.std.proofs.Common.{◌≡◌, length}
use Rattle.account_overlay.specs.Layers.{Covered, put_back}
use Rattle.account_overlay.proofs.layer.Layer.rollback.Given as goal

-- what is left of the journal, put back, gives what all of it gives
abbrev pub invariant-loop-key : goal.invariant-loop-key
invariant-loop-key g l = record {
  covered : Covered g.K.Ord.cmp l.self.places.entries l.self.journal.items;
  rest : put_back g.K.Ord.cmp l.self.places.entries l.self.journal.items ≡ put_back g.K.Ord.cmp l.fn.self.places.entries l.fn.self.journal.items;
}

abbrev pub decreases-loop-key : goal.decreases-loop-key
decreases-loop-key g l = length l.self.journal.items
