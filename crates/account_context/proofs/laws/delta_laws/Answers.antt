use Rattle.account_context.proofs.Differences.{added_are, removed_are}
use Rattle.account_context.proofs.laws.delta_laws.Goals as goal

pub returns : goal.returns
returns c = record {
  added = λ pair id. added_are pair.base pair.now.accounts id;
  removed = λ pair id. removed_are pair.base pair.now.accounts id;
}
