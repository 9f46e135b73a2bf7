use Rattle.std.proofs.Common.{◌≡◌, ◌<◌, ◌≤◌, ◌+◌, ℕ, false}
use Rattle.blob_decode.specs.Program.{mask_bit}
use Rattle.blob_decode.proofs.program.Program.begun_before.Given as goal

abbrev pub invariant-loop-back : goal.invariant-loop-back
invariant-loop-back l = (j : ℕ) → j < l.place → l.place ≤ j + l.back → mask_bit l.self j ≡ false
