-- What an invocation leaves: the context now as a difference from the accounts at the start.
use Rattle.std.specs.Prelude.{ℕ, List, filter, not}
use Rattle.std.specs.FinMap as fin
use Rattle.account_context.specs.declared.delta.Delta.{Delta}
use Rattle.account_context.specs.Context.{Pair, own_account}
use Rattle.account_context.specs.FreeIds.{added_accounts}

-- the numbers of the accounts that there were only at the start, in ascending order
abbrev pub removed_ids : Pair → List ℕ
removed_ids pair = filter (λ id. not (fin.contains_key pair.now.accounts id)) (fin.keys pair.base)

abbrev pub delta : Pair → Delta
delta pair = record {
  own = own_account pair;
  added = added_accounts pair;
  removed = removed_ids pair;
  transfers = pair.now.transfers;
  yielded = pair.now.yielded;
  provided = pair.now.provided;
}
