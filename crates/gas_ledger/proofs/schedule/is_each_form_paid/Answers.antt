use Rattle.std.proofs.Common.{◌<◌, ◌^◌, arith}
use Rattle.std.proofs.lemmas.List.Elements.{All-from_get_or}
use Rattle.gas_ledger.proofs.schedule.is_each_form_paid.Goals as goal

pub returns-clause-bytes : goal.returns-clause-bytes
returns-clause-bytes c = All-from_get_or (λ cost. cost < 2 ^ 8) c.args.forms.now 0 (λ k within. omega (arith, c.type_inv.forms k))
