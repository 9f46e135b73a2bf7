use Rattle.std.proofs.Common.{arith}
use Rattle.std.proofs.lemmas.Bool.Decides.{nat_tests}
use Rattle.jam_codec.proofs.Spelled.{room_for_bit}
use Rattle.jam_codec.proofs.writing.byte_of.Goals as goal

pub overflow_mul-byte : goal.overflow_mul-byte
overflow_mul-byte c = omega (arith, room_for_bit c.args.bits.now c.loop-place.place c.loop-place-test.true c.requires, c.loop-place.invariant.number)

pub overflow_add-byte : goal.overflow_add-byte
overflow_add-byte c = grind (arith, nat_tests, room_for_bit c.args.bits.now c.loop-place.place c.loop-place-test.true c.requires, c.loop-place.invariant.number, c.from.ensures)
