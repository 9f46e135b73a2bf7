use Rattle.std.proofs.Common.{◌≡◌, ◌+◌, ◌∷◌, drop, subst, rules}
use Rattle.std.specs.Io.{StartsWith}
use Rattle.jam_fields.specs.ItemLaws.{AddedWhole, none_added_whole, one_added_whole, kept_whole, drop_is}
use Rattle.jam_fields.proofs.list.write_items.Goals as goal

pub loop-item-init : goal.loop-item-init
loop-item-init g c = none_added_whole (λ _. g.T.Field.format) c.args.items.now c.args.out.now.items

pub loop-item-preserved : goal.loop-item-preserved
loop-item-preserved g c =
    let left : drop c.loop-item.item-index c.args.items.now ≡ c.item-item.result ∷ drop (c.loop-item.item-index + 1) c.args.items.now = drop_is c.args.items.now c.loop-item.item-index c.item-item.result c.loop-item-test.true c.item-item.is in
    one_added_whole (λ _. g.T.Field.format) c.args.items.now (drop (c.loop-item.item-index + 1) c.args.items.now) c.item-item.result c.args.out.now.items c.loop-item.out.items c.write.new.out.items
    (subst (λ xs. AddedWhole (λ _. g.T.Field.format) c.args.items.now xs c.args.out.now.items c.loop-item.out.items) left c.loop-item.invariant)
    (λ _. c.in_ok-write.ensures.ok)
    c.in_ok-write.ensures.fits

pub returns-in_err-write-clause-kept : goal.returns-in_err-write-clause-kept
returns-in_err-write-clause-kept g c =
    let kept : StartsWith c.write.new.out.items c.args.out.now.items = kept_whole (λ _. g.T.Field.format) c.args.items.now (drop c.loop-item.item-index c.args.items.now) c.args.out.now.items c.loop-item.out.items c.write.new.out.items c.loop-item.invariant c.in_err-write.ensures.kept in
    search rules
