use Rattle.std.proofs.Common.{◌<◌}
use Rattle.pages_tests.proofs.tests.runs_are_the_plain_rights.Given as goal

abbrev pub invariant-loop-call : goal.invariant-loop-call
invariant-loop-call g l = l.number < 65536
