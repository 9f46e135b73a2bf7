use Rattle.std.proofs.Common.{take}
use Rattle.std.specs.List.{flat_map}
use Rattle.blake2b_core.specs.Hasher.{StandsFor}
use Rattle.blake2b_core.proofs.digest_of_pieces.Given as goal

-- the hasher stands for the pieces so far
abbrev pub invariant-pieces : goal.invariant-pieces
invariant-pieces l = StandsFor l.hasher (flat_map (λ piece. piece.now) (take l.piece-index l.pieces))
