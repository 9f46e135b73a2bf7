use Rattle.std.proofs.Common.{◌≡◌, ◌++◌, length, true}
use Rattle.std.specs.List.{list_all}
use Rattle.pvm_asm.specs.Numbers.{is_digit, paired}
use Rattle.pvm_asm.proofs.word.Hex.push_to.Given as goal

abbrev pub invariant-pairs : goal.invariant-pairs
invariant-pairs l = record {
  digits : list_all (is_digit 16) l.left ≡ true;
  pushed : l.out.items ++ paired l.left ≡ l.fn.out.items ++ l.self;
}

abbrev pub decreases-pairs : goal.decreases-pairs
decreases-pairs l = length l.left
