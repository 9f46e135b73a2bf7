use Rattle.std.proofs.Common.{refl}
use Rattle.blake2b_core.specs.Blake2b.{blocks, chained}
use Rattle.blake2b_core.proofs.hasher.Hasher.new.Goals as goal

pub returns-clause-bytes : goal.returns-clause-bytes
unfolding blocks chained
returns-clause-bytes c = record { counted = refl; compressed = refl; last = refl }
