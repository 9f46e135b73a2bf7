use Rattle.std.proofs.Common.{subst, OnOk}
use Rattle.state_file.specs.StateFile.{history_format}
use Rattle.state_file.proofs.lookups.write_slots.Goals as goal

pub returns-clause-fits : goal.returns-clause-fits
returns-clause-fits c = subst (λ xs. OnOk c.write_list.result (history_format.Fits xs)) c.slots.ensures.value c.write_list.ensures.fits
