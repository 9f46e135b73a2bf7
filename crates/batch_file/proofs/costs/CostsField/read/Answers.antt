use Rattle.std.proofs.Common.{◌≡◌, ◌∙◌, true, nat_le, Some, None}
use Rattle.std.specs.List.{list_all}
use Rattle.gas_ledger.specs.Schedule.{Schedule, are_costs}
use Rattle.batch_file.proofs.CostLists.{costs_pass, both_hold, chosen}
use Rattle.batch_file.proofs.costs.CostsField.read.Goals as goal

pub returns-in-None : goal.returns-in-None
returns-in-None c =
    let forms : list_all (nat_le 1) c.in_ok-forms.forms ≡ true = costs_pass 1 1 13 None c.ahead-ahead.result c.in_ok-forms.forms c.read_forms.new.cursor c.in_ok-forms.ensures.exact in
    let calls : list_all (nat_le 10) c.in_ok-calls.calls ≡ true = costs_pass 2 10 28 None c.read_forms.new.cursor c.in_ok-calls.calls c.read_calls.new.cursor c.in_ok-calls.ensures.exact in
    let paid : are_costs c.in_ok-forms.forms c.in_ok-calls.calls ≡ true = both_hold (list_all (nat_le 1) c.in_ok-forms.forms) (list_all (nat_le 10) c.in_ok-calls.calls) forms calls in
    let schedule : Schedule = record { forms = c.in_ok-forms.forms; calls = c.in_ok-calls.calls } in
    let some : c.of.result ≡ Some schedule = c.of.ensures ∙ chosen (are_costs c.in_ok-forms.forms c.in_ok-calls.calls) schedule paid in
    absurd (cc (some, c.in-None.is))
