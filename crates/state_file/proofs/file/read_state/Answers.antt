use Rattle.std.proofs.Common.{sym, subst}
use Rattle.jam_accounts.specs.Accounts.{State}
use Rattle.jam_codec.specs.Format.{Spells}
use Rattle.state_file.specs.StateFile.{state_format}
use Rattle.state_file.proofs.file.read_state.Goals as goal

pub returns-clause-found : goal.returns-clause-found
returns-clause-found c = subst (λ (state : State). Spells state_format state c.args.bytes.now) (sym c.into_state.ensures) c.in_ok-content.ensures.found
