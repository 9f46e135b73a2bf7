use Rattle.account_context.specs.Context.{checkpoint, restore, started}
use Rattle.account_context.proofs.Restores.{restored_all, others_stay}
use Rattle.account_context.proofs.laws.restore_laws.Goals as goal

pub returns : goal.returns
returns c = record {
  checkpointed = λ pair changes. restored_all (checkpoint pair) changes;
  restored = λ pair changes. restored_all (restore pair) changes;
  at_start = λ base service entropy slot changes. restored_all (started base service entropy slot) changes;
  others = others_stay;
}
