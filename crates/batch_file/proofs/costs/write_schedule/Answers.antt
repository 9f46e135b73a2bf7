use Rattle.std.proofs.Common.{◌≡◌, ◌∙◌, ap, refl, subst, arith, None}
use Rattle.std.proofs.lemmas.Result.{on_ok_weaker}
use Rattle.std.proofs.lemmas.Bool.{and_parts}
use Rattle.std.specs.Prelude.{nat_le}
use Rattle.std.specs.List.{list_all}
use Rattle.byte_numbers.specs.Numbers.{little_endian}
use Rattle.jam_codec.specs.Format.{any, fixed_where, items_spelled, items_fit}
use Rattle.batch_file.proofs.CostLists.{cost, costs_spelled, costs_fit, added}
use Rattle.batch_file.proofs.costs.write_schedule.Goals as goal

pub returns-clause-ok : goal.returns-clause-ok
returns-clause-ok c =
    let forms : items_spelled (λ _. fixed_where 1 any) None c.forms.result.now ≡ items_spelled (cost 1 1) None c.args.schedule.now.forms =
    costs_spelled 1 1 None c.forms.result.now ∙ ap (items_spelled (cost 1 1) None) c.forms.ensures.value in
    let calls : items_spelled (λ _. fixed_where 2 any) None c.calls.result.now ≡ items_spelled (cost 2 10) None c.args.schedule.now.calls =
    costs_spelled 2 10 None c.calls.result.now ∙ ap (items_spelled (cost 2 10) None) c.calls.ensures.value in
    on_ok_weaker c.write_items-2.result (λ e. e ∙ added c.args.out.now.items c.push_fixed.new.out.items c.write_items.new.out.items (little_endian 1 1) _ _ _ _ c.in_ok-push_fixed.ensures.ok c.in_ok-write_items.ensures.ok forms calls) c.write_items-2.ensures.ok

pub returns-clause-fits : goal.returns-clause-fits
returns-clause-fits c =
    let paid = and_parts (list_all (nat_le 1) c.args.schedule.now.forms) (list_all (nat_le 10) c.args.schedule.now.calls) c.forms.ensures.schedule.costs in
    let forms : items_fit (cost 1 1) 13 None c.args.schedule.now.forms = subst (λ n. items_fit (cost 1 1) n None c.args.schedule.now.forms) c.forms.ensures.schedule.form_count (costs_fit 1 1 None c.args.schedule.now.forms c.forms.ensures.schedule.form_bytes paid.0) in
    let calls : items_fit (cost 2 10) 28 None c.args.schedule.now.calls = subst (λ n. items_fit (cost 2 10) n None c.args.schedule.now.calls) c.forms.ensures.schedule.call_count (costs_fit 2 10 None c.args.schedule.now.calls c.forms.ensures.schedule.call_bytes paid.1) in
    on_ok_weaker c.write_items-2.result (λ _. ((omega arith, refl), (forms, calls))) c.write_items-2.ensures.ok
