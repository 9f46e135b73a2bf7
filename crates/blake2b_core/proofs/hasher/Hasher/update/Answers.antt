use Rattle.blake2b_core.proofs.hasher.Hasher.update.Goals as goal
use Rattle.blake2b_core.proofs.hasher.Hasher.update.Goals.{then-bytes-waiting, else-bytes-waiting}

pub returns-clause-bytes : goal.returns-clause-bytes
returns-clause-bytes c = elim c.if-bytes-waiting.branch [
  | then-bytes-waiting w ↦ λ all s. rw w.self-inside-is (w.hold.ensures c.self.inside.chain all (rw c.self.view_is s))
  | else-bytes-waiting w ↦ λ all s. rw w.self-inside-is (w.pass.ensures all (rw c.self.view_is s))
]
