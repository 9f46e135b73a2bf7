use Rattle.std.proofs.Common.{◌≡◌, ◌++◌, drop}
use Rattle.pvm_asm.specs.Assembly.{entry_bytes}
use Rattle.pvm_asm.proofs.image.push_entries.Given as goal

abbrev pub invariant-loop-place : goal.invariant-loop-place
invariant-loop-place l = l.out.items ++ entry_bytes l.width (drop l.place-index l.entries) ≡ l.fn.out.items ++ entry_bytes l.width l.entries
