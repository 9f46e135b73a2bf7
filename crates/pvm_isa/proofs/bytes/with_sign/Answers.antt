use Rattle.std.proofs.Common.{arith}
use Rattle.pvm_isa.proofs.Numbers.{sign-cast}
use Rattle.pvm_isa.proofs.bytes.with_sign.Goals as goal

pub returns : goal.returns
returns c =
    sign-cast c.args.size c.from.result c.args.number c.cast_unsigned.result c.cast_signed.result c.cast_signed.type_inv c.from.ensures (omega arith) c.requires (omega arith) c.cast_signed.ensures c.cast_unsigned.ensures
