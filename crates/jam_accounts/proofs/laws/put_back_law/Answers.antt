use Rattle.std.specs.Cmp.{nat_cmp_total}
use Rattle.std.specs.FinMap.{nat_cmp-IsAntisymmetric}
use Rattle.jam_accounts.specs.PutBackLaws.{inserted_back, inserted_twice, inserted_same}
use Rattle.jam_accounts.proofs.laws.put_back_law.Goals as goal

pub returns : goal.returns
returns c = record {
  removed = inserted_back nat_cmp_total nat_cmp-IsAntisymmetric;
  replaced = inserted_twice nat_cmp_total nat_cmp-IsAntisymmetric;
  same = inserted_same nat_cmp_total nat_cmp-IsAntisymmetric;
}
