use Rattle.std.proofs.Common.{arith, ◌≡◌, ◌-◌, ◌+◌, suc, None}
use Rattle.std.proofs.lemmas.Result.{err_from_is_err_and}
use Rattle.jam_codec.specs.Format.{items_at}
use Rattle.jam_codec.specs.Refusal.{place_of}
use Rattle.jam_fields.specs.ItemLaws.{none_read, one_read, one_refused, all_read}
use Rattle.jam_fields.proofs.list.read_items.Goals as goal

pub loop-init : goal.loop-init
loop-init g c =
    let all : c.args.count - 0 ≡ c.args.count = omega arith in
    rw (c.new-items.ensures.items, all) (none_read (λ _. g.T.Field.format) c.args.count c.args.cursor.now)

pub returns-in_err-read : goal.returns-in_err-read
returns-in_err-read g c =
    let parts = err_from_is_err_and c.from_residual.result c.from_residual.ensures.1 in
    let count : c.args.count - c.loop.counter ≡ suc (c.args.count - (c.loop.counter + 1)) = omega arith in
    rw (parts.1, parts.2) (record {
      exact = one_refused (λ _. g.T.Field.format) (items_at (λ _. g.T.Field.format) c.args.count None c.args.cursor.now) c.loop.items.items (c.args.count - c.loop.counter) c.loop.cursor (c.args.count - (c.loop.counter + 1)) (place_of c.in_err-read.field-0.0) c.loop.invariant count c.in_err-read.ensures.exact;
    })

pub loop-preserved : goal.loop-preserved
loop-preserved g c =
    let count : c.args.count - c.loop.counter ≡ suc (c.args.count - (c.loop.counter + 1)) = omega arith in
    rw c.in_ok-push.ensures.items
    (one_read (λ _. g.T.Field.format) (items_at (λ _. g.T.Field.format) c.args.count None c.args.cursor.now) c.loop.items.items (c.args.count - c.loop.counter) c.loop.cursor (c.args.count - (c.loop.counter + 1)) c.in_ok-read.field-0 c.read.new.cursor c.loop.invariant count c.in_ok-read.ensures.exact)

pub returns : goal.returns
returns g c =
    let count : c.args.count - c.loop.counter ≡ 0 = omega arith in
    record { exact = all_read (λ _. g.T.Field.format) (items_at (λ _. g.T.Field.format) c.args.count None c.args.cursor.now) c.loop.items.items (c.args.count - c.loop.counter) c.loop.cursor c.loop.invariant count }
