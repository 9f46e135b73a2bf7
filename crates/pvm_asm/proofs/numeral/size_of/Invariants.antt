use Rattle.std.proofs.Common.{◌≡◌, ◌≤◌, ◌^◌, min, drop}
use Rattle.pvm_asm.specs.Numbers.{followed_by}
use Rattle.pvm_asm.proofs.numeral.size_of.Given as goal

abbrev pub invariant-loop-b : goal.invariant-loop-b
invariant-loop-b l = record {
  small : l.size ≤ 2 ^ 64;
  kept : min (followed_by l.base l.size (drop l.b-index l.digits)) (2 ^ 64) ≡ min (followed_by l.base 0 l.digits) (2 ^ 64);
}
