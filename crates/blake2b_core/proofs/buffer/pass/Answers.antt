use Rattle.std.proofs.Common.{◌≡◌, ◌+◌, length, arith, zero-add}
use Rattle.blake2b_core.proofs.Standing.{in_pieces, stands_passed}
use Rattle.blake2b_core.proofs.buffer.pass.Goals as goal

pub returns : goal.returns
returns c = λ all s.
    let front = c.split_at.result.0.now in
    let rest = c.split_at.result.1.now in
    let whole = c.split_at-2.result.0.now in
    let tail = c.split_at-2.result.1.now in
    let passed = stands_passed c.args.chain.now c.compress.new.chain c.compress_blocks.new.chain c.args.block.now c.put.new.block
    c.put-2.new.block front whole tail all c.args.count s (omega arith) (omega arith) (rw c.waiting-used.ensures.count at c.put.ensures)
    c.compress.ensures (omega arith) c.compress_blocks.ensures (omega arith) (omega arith) (rw zero-add at c.put-2.ensures) in
    let pieces = in_pieces _ all c.args.bytes.now front rest whole tail c.split_at.ensures.front c.split_at.ensures.back
    _ c.split_at-2.ensures.front c.split_at-2.ensures.back in
    let count : c.args.count + length c.args.bytes.now ≡ c.args.count + length front + length whole + length tail = omega arith in
    rw (count, pieces) passed
