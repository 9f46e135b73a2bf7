use Rattle.jam_cli.proofs.Once.{once, one_of_each, spell_once, refuse_once, apart, entry_named}
use Rattle.jam_cli.proofs.laws.command_laws.Goals as goal

pub returns-clause-command : goal.returns-clause-command
returns-clause-command c = once

pub returns-clause-place : goal.returns-clause-place
returns-clause-place c = refuse_once

pub returns-clause-apart : goal.returns-clause-apart
returns-clause-apart c = apart

pub returns-clause-entry : goal.returns-clause-entry
returns-clause-entry c = entry_named

pub returns-clause-values : goal.returns-clause-values
returns-clause-values c = spell_once (one_of_each c.blob_laws.ensures.one_value c.standard_laws.ensures.one_value c.state_laws.ensures.one c.batch_laws.ensures.one_value)
