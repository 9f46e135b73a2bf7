use Rattle.std.proofs.Common.{ℕ, List, true, take, ap, ◌∙◌}
use Rattle.blake2b_core.specs.Blake2b.{compress, filled, digest}
use Rattle.blake2b_core.proofs.BlockWords.{words_spelled}
use Rattle.blake2b_core.proofs.Standing.{stands_final}
use Rattle.blake2b_core.proofs.buffer.finish.Goals as goal

pub returns : goal.returns
unfolding digest
returns c = λ all s.
    let last = c.fill.ensures ∙ ap (λ (n : ℕ). filled (take n c.args.block)) c.waiting.ensures.count in
    let compressed = c.compress.ensures ∙ ap (λ (b : List ℕ). compress c.args.chain b c.args.count true) last in
    rw (← stands_final c.args.chain c.args.block c.compress.new.chain all c.args.count s compressed) (c.write_u64_into.ensures ∙ words_spelled (take 4 c.compress.new.chain))
