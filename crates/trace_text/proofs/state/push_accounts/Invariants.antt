use Rattle.std.specs.Prelude.{◌≡◌, ◌++◌, map}
use Rattle.std.specs.FinMap as fin
use Rattle.trace_text.specs.Transcript.{account_shown}
use Rattle.trace_text.proofs.state.push_accounts.Given as goal

abbrev pub invariant-loop-id : goal.invariant-loop-id
invariant-loop-id l = l.lines.items ++ map account_shown l.id-iterator ≡ l.fn.lines.items ++ map account_shown (fin.entries l.accounts)
