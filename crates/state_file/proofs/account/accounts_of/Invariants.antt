use Rattle.std.proofs.Common.{◌≡◌, ◌++◌}
use Rattle.std.specs.FinMap as fin
use Rattle.jam_accounts.specs.Accounts.{AreOfVersion}
use Rattle.state_file.proofs.account.accounts_of.Given as goal

abbrev pub invariant-loop-id : goal.invariant-loop-id
invariant-loop-id g l = record {
  made : fin.entries l.accounts ++ l.id-iterator.rest.items ≡ l.fn.entries.items;
  version : AreOfVersion g.row.VERSION l.accounts;
}
