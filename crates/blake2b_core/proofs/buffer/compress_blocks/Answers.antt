use Rattle.std.proofs.Common.{rules, ◌≡◌, ◌+◌, ◌-◌, ◌*◌, ◌/◌, length, take, drop, false, arith, ◌∙◌}
use Rattle.std.proofs.lemmas.List.{length-take-le, length-drop}
use Rattle.blake2b_core.specs.Blake2b.{blocks, chained, compress}
use Rattle.blake2b_core.proofs.Chains.{chained-next}
use Rattle.blake2b_core.proofs.buffer.compress_blocks.Goals as goal

pub blocks-2-init : goal.blocks-2-init
unfolding blocks chained
blocks-2-init c = search rules

pub blocks-2-preserved : goal.blocks-2-preserved
blocks-2-preserved c =
    let i = c.blocks-2.i in
    let bytes = c.args.bytes.now in
    let size : length (take 128 (drop (128 * i) bytes)) ≡ 128 = length-take-le 128 (drop (128 * i) bytes) (omega (arith, length-drop (128 * i) bytes)) in
    let next = chained-next i (c.args.count / 128) c.args.chain.now bytes _ (λ _. take 128 (drop (128 * i) bytes)) size in
    let width : 128 * i + 128 - 128 * i ≡ 128 = omega arith in
    let count : c.args.count + (128 * i + 128) ≡ 128 * (c.args.count / 128 + i + 1) = omega arith in
    rw next (c.compress.ensures ∙ (λ j. compress (c.blocks-2.invariant j) (take (width j) (drop (128 * i) bytes)) (count j) false))
