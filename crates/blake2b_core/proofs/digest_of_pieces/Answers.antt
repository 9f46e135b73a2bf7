use Rattle.std.proofs.Common.{[], ap, arith, ◌∙◌}
use Rattle.std.proofs.lemmas.List.{take_all}
use Rattle.std.specs.List.{flat_map}
use Rattle.blake2b_core.specs.Blake2b.{digest}
use Rattle.blake2b_core.proofs.Pieces.{joined_fits, joined_more}
use Rattle.blake2b_core.proofs.digest_of_pieces.Goals as goal

pub update-requires : goal.update-requires
update-requires c =
    let fits = joined_fits (λ piece. piece.now) c.args.pieces.now c.pieces.piece-index (record { ref_ptr = (0, 0); now = [] }) c.pieces-test.true in
    let count = c.pieces.invariant.counted in
    omega (arith, fits, count)

pub pieces-preserved : goal.pieces-preserved
pieces-preserved c =
    rw (joined_more (λ piece. piece.now) c.args.pieces.now c.pieces.piece-index (record { ref_ptr = (0, 0); now = [] }) c.pieces-test.true)
    (c.update.ensures.bytes _ c.pieces.invariant)

pub returns : goal.returns
returns c =
    c.finish.ensures _ c.pieces.invariant
    ∙ ap (λ pieces. digest (flat_map (λ piece. piece.now) pieces)) (take_all c.pieces.piece-index c.args.pieces.now c.pieces-test.false)
