use Rattle.std.proofs.Common.{arith, refl}
use Rattle.std.proofs.lemmas.Result.{err_from_is_err_and}
use Rattle.jam_codec.specs.Refusal.{place_of}
use Rattle.batch_file.proofs.CostLists.{none_of_costs, one_cost, cost_refused, all_costs, same_size}
use Rattle.batch_file.proofs.costs.read_calls.Goals as goal

pub loop-call-init : goal.loop-call-init
loop-call-init c = record { size = refl; begun = none_of_costs 2 10 28 c.args.cursor.now }

pub loop-call-preserved : goal.loop-call-preserved
loop-call-preserved c = record {
  size = same_size c.loop-call.calls c.loop-call.call c.in_ok-calls.field-0 28 c.loop-call.invariant.size;
  begun = one_cost 2 10 28 c.loop-call.call c.loop-call.calls c.args.cursor.now c.loop-call.cursor c.in_ok-calls.field-0 c.read_cost.new.cursor c.loop-call.invariant.begun (omega arith) c.loop-call.invariant.size c.in_ok-calls.ensures.exact;
}

pub returns-in_err-calls : goal.returns-in_err-calls
returns-in_err-calls c =
    let parts = err_from_is_err_and c.from_residual.result c.from_residual.ensures.1 in
    rw (parts.1, parts.2) (record {
      exact = cost_refused 2 10 28 c.loop-call.call c.loop-call.calls c.args.cursor.now c.loop-call.cursor (place_of c.in_err-calls.field-0.0) c.loop-call.invariant.begun (omega arith) c.in_err-calls.ensures.exact;
    })

pub returns : goal.returns
returns c = record { exact = all_costs 2 10 28 c.loop-call.call c.loop-call.calls c.args.cursor.now c.loop-call.cursor c.loop-call.invariant.begun (omega arith) c.loop-call.invariant.size }
