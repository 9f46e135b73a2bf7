-- The pair that whole copies are: the context now, and the one that was saved where it is another copy.
use Rattle.std.specs.Prelude.{ℕ, Option, Some, None}
use Rattle.jam_accounts.specs.Accounts.{Accounts}
use Rattle.account_context.specs.declared.context_copy.ContextCopy.{ContextCopy}
use Rattle.account_context.specs.Context.{Context, Pair}

abbrev pub context_of : ContextCopy → Context
context_of copy = record {
  accounts = copy.accounts;
  candidate = copy.candidate;
  transfers = copy.transfers;
  yielded = copy.yielded;
  provided = copy.provided;
}

-- where there is no other copy, the one now stands for both
abbrev pub saved_copy : ContextCopy → Option ContextCopy → ContextCopy
saved_copy now None = now
saved_copy now (Some saved) = saved

abbrev pub pair_of : Accounts → ℕ → ContextCopy → Option ContextCopy → Pair
pair_of base service now saved = record {
  base = base;
  service = service;
  now = context_of now;
  saved = context_of (saved_copy now saved);
}
