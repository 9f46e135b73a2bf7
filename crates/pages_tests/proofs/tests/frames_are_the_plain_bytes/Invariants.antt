use Rattle.std.proofs.Common.{◌<◌}
use Rattle.pages_tests.proofs.tests.frames_are_the_plain_bytes.Given as goal

abbrev pub invariant-loop-call : goal.invariant-loop-call
invariant-loop-call g l = l.number < 65536
