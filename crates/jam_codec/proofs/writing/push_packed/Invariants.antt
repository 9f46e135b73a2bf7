use Rattle.std.proofs.Common.{◌≡◌, ◌++◌, length, take}
use Rattle.jam_codec.specs.Spelling.{packed}
use Rattle.jam_codec.proofs.writing.push_packed.Given as goal

abbrev pub invariant-loop-left : goal.invariant-loop-left
invariant-loop-left l = record {
  pushed : l.out.items ++ packed l.left ≡ l.fn.out.items ++ packed l.bits;
  kept : take (length l.fn.out.items) l.out.items ≡ l.fn.out.items;
}

abbrev pub decreases-loop-left : goal.decreases-loop-left
decreases-loop-left l = length l.left
