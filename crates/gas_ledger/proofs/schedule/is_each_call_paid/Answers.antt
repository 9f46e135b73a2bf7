use Rattle.std.proofs.Common.{◌<◌, ◌^◌, arith}
use Rattle.std.proofs.lemmas.List.Elements.{All-from_get_or}
use Rattle.gas_ledger.proofs.schedule.is_each_call_paid.Goals as goal

pub returns-clause-bytes : goal.returns-clause-bytes
returns-clause-bytes c = All-from_get_or (λ cost. cost < 2 ^ 16) c.args.calls.now 0 (λ k within. omega (arith, c.type_inv.calls k))
