use Rattle.std.proofs.Common.{◌≡◌, ◌++◌, length, take}
use Rattle.std.specs.List.{flat_map}
use Rattle.jam_codec.specs.Spelling.{natural}
use Rattle.host_general.proofs.inputs.list.Given as goal

-- the count, and the pieces so far
abbrev pub invariant-pieces : goal.invariant-pieces
invariant-pieces l = l.bytes.items ≡ natural (length l.pieces) ++ flat_map (λ piece. piece.items) (take l.piece-index l.pieces)
