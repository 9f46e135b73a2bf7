use Rattle.std.proofs.Common.{arith, refl}
use Rattle.std.proofs.lemmas.Result.{err_from_is_err_and}
use Rattle.jam_codec.specs.Refusal.{place_of}
use Rattle.batch_file.proofs.CostLists.{none_of_costs, one_cost, cost_refused, all_costs, same_size}
use Rattle.batch_file.proofs.costs.read_forms.Goals as goal

pub loop-form-init : goal.loop-form-init
loop-form-init c = record { size = refl; begun = none_of_costs 1 1 13 c.args.cursor.now }

pub loop-form-preserved : goal.loop-form-preserved
loop-form-preserved c = record {
  size = same_size c.loop-form.forms c.loop-form.form c.in_ok-forms.field-0 13 c.loop-form.invariant.size;
  begun = one_cost 1 1 13 c.loop-form.form c.loop-form.forms c.args.cursor.now c.loop-form.cursor c.in_ok-forms.field-0 c.read_cost.new.cursor c.loop-form.invariant.begun (omega arith) c.loop-form.invariant.size c.in_ok-forms.ensures.exact;
}

pub returns-in_err-forms : goal.returns-in_err-forms
returns-in_err-forms c =
    let parts = err_from_is_err_and c.from_residual.result c.from_residual.ensures.1 in
    rw (parts.1, parts.2) (record {
      exact = cost_refused 1 1 13 c.loop-form.form c.loop-form.forms c.args.cursor.now c.loop-form.cursor (place_of c.in_err-forms.field-0.0) c.loop-form.invariant.begun (omega arith) c.in_err-forms.ensures.exact;
    })

pub returns : goal.returns
returns c = record { exact = all_costs 1 1 13 c.loop-form.form c.loop-form.forms c.args.cursor.now c.loop-form.cursor c.loop-form.invariant.begun (omega arith) c.loop-form.invariant.size }
