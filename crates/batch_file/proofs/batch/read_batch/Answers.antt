use Rattle.std.proofs.Common.{ℕ, Option, Some, None, IfSome}
use Rattle.jam_codec.specs.Refusal.{place_of}
use Rattle.batch_file.specs.BatchFile.{unscheduled}
use Rattle.batch_file.proofs.batch.read_batch.Goals as goal

if_some : {P Q : Type 0} (place : Option ℕ) → (P → Q) → IfSome place (λ _. P) → IfSome place (λ _. Q)
if_some None f h = tt
if_some (Some place) f h = f h

pub returns-in-Err-clause-refused : goal.returns-in-Err-clause-refused
returns-in-Err-clause-refused c = if_some (place_of c.in-Err.refusal) (λ none batch spells. none (unscheduled batch, batch.schedule) spells) c.in-Err.ensures.refused
