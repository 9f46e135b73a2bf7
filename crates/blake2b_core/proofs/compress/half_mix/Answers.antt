use Rattle.std.proofs.Common.{arith}
use Rattle.blake2b_core.proofs.Turns.{half_mixed}
use Rattle.blake2b_core.proofs.compress.half_mix.Goals as goal

pub returns : goal.returns
returns c =
    half_mixed _ _ c.args.a c.args.b c.args.c c.args.d c.args.word _ _ c.args.v.now (omega arith) (omega arith) (omega arith) (omega arith)
    (omega arith) (omega arith) c.rotate_right-new_d.ensures c.rotate_right-new_b.ensures
