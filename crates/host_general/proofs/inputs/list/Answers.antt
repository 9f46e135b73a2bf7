use Rattle.std.proofs.Common.{List, ℕ, ◌++◌, length, map, sym, ap, ◌∙◌}
use Rattle.std.specs.List.{flat_map, concat}
use Rattle.std.proofs.lemmas.List.{take_all, length-map}
use Rattle.jam_codec.specs.Spelling.{natural}
use Rattle.host_general.proofs.Listed.{joined_map}
use Rattle.host_general.proofs.inputs.list.Goals as goal

pub returns : goal.returns
returns c =
    c.pieces.invariant
    ∙ ap (λ pieces. natural (length c.args.pieces.now) ++ flat_map (λ piece. piece.items) pieces) (take_all c.pieces.piece-index c.args.pieces.now c.pieces-test.false)
    ∙ ap (λ (bytes : List ℕ). natural (length c.args.pieces.now) ++ bytes) (joined_map (λ piece. piece.items) c.args.pieces.now)
    ∙ ap (λ (n : ℕ). natural n ++ concat (map (λ piece. piece.items) c.args.pieces.now)) (sym (length-map c.args.pieces.now (λ piece. piece.items)))
