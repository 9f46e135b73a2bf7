use Rattle.std.proofs.Common.{arith, ◌≡◌, ◌-◌, ◌+◌, suc, None, sym, ◌∙◌, ap, subst, option_copied, length}
use Rattle.std.specs.Prelude.{slice_get}
use Rattle.std.proofs.lemmas.Result.{err_from_is_err_and}
use Rattle.jam_codec.specs.Format.{items_at}
use Rattle.jam_codec.specs.Reading.{Refuses}
use Rattle.jam_codec.specs.Refusal.{place_of}
use Rattle.jam_fields.specs.ItemLaws.{none_read, one_read, one_refused, all_read, read_after_last}
use Rattle.jam_fields.proofs.row.read_times.Goals as goal

pub loop-init : goal.loop-init
loop-init g c =
    let all : c.args.count - 0 ≡ c.args.count = omega arith in
    rw (c.new-rows.ensures.items, all) (none_read g.T.Row.after c.args.count c.args.cursor.now)

pub returns-in_err-row : goal.returns-in_err-row
returns-in_err-row g c =
    let parts = err_from_is_err_and c.from_residual.result c.from_residual.ensures.1 in
    let count : c.args.count - c.loop.counter ≡ suc (c.args.count - (c.loop.counter + 1)) = omega arith in
    let last : option_copied c.last.result ≡ slice_get c.loop.rows.items (length c.loop.rows.items - 1) = c.last.ensures.value ∙ ap (λ xs. slice_get xs (length xs - 1)) c.deref.ensures.value in
    let here = read_after_last g.T.Row.after c.loop.rows.items (option_copied c.last.result) c.loop.cursor last in
    rw (parts.1, parts.2) (record {
      exact = one_refused g.T.Row.after (items_at g.T.Row.after c.args.count None c.args.cursor.now) c.loop.rows.items (c.args.count - c.loop.counter) c.loop.cursor (c.args.count - (c.loop.counter + 1)) (place_of c.in_err-row.field-0.0) c.loop.invariant count (subst (Refuses (place_of c.in_err-row.field-0.0)) here c.in_err-row.ensures.exact);
    })

pub loop-preserved : goal.loop-preserved
loop-preserved g c =
    let count : c.args.count - c.loop.counter ≡ suc (c.args.count - (c.loop.counter + 1)) = omega arith in
    let last : option_copied c.last.result ≡ slice_get c.loop.rows.items (length c.loop.rows.items - 1) = c.last.ensures.value ∙ ap (λ xs. slice_get xs (length xs - 1)) c.deref.ensures.value in
    let here = read_after_last g.T.Row.after c.loop.rows.items (option_copied c.last.result) c.loop.cursor last in
    rw c.in_ok-push.ensures.items
    (one_read g.T.Row.after (items_at g.T.Row.after c.args.count None c.args.cursor.now) c.loop.rows.items (c.args.count - c.loop.counter) c.loop.cursor (c.args.count - (c.loop.counter + 1)) c.in_ok-row.row c.read_after.new.cursor c.loop.invariant count (sym here ∙ c.in_ok-row.ensures.exact))

pub returns : goal.returns
returns g c =
    let count : c.args.count - c.loop.counter ≡ 0 = omega arith in
    record { exact = all_read g.T.Row.after (items_at g.T.Row.after c.args.count None c.args.cursor.now) c.loop.rows.items (c.args.count - c.loop.counter) c.loop.cursor c.loop.invariant count }
