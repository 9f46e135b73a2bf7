use Rattle.std.proofs.Common.{sym, ◌∙◌, ◌∷◌, refl, subst}
use Rattle.std.specs.FinMap as fin
use Rattle.std.specs.Cmp.Lexicographic.{nat_list_cmp_total}
use Rattle.jam_codec.specs.Format.{any}
use Rattle.jam_codec.specs.Lists.{blob_where, blob_after, map_entry}
use Rattle.jam_fields.specs.ItemLaws.{AddedWhole, none_added_whole, one_added_whole}
use Rattle.state_file.proofs.Maps.{follows_before}
use Rattle.state_file.proofs.storage.write_entries.Goals as goal

pub loop-key-init : goal.loop-key-init
loop-key-init c =
    subst (λ left. AddedWhole (map_entry blob_after (blob_where any)) (fin.entries c.args.storage.now) left c.args.out.now.items c.args.out.now.items)
    (sym c.entries-key-items.ensures ∙ sym c.into_iter-key-iterator.ensures.into_iter_gives) (none_added_whole (map_entry blob_after (blob_where any)) (fin.entries c.args.storage.now) c.args.out.now.items)

pub loop-key-preserved : goal.loop-key-preserved
loop-key-preserved c =
    let g = map_entry blob_after (blob_where any) in
    let whole : AddedWhole g (fin.entries c.args.storage.now) ((c.in-Some.key.now, c.in-Some.value.now) ∷ c.next.new.self) c.args.out.now.items c.loop-key.out.items =
    subst (λ left. AddedWhole g (fin.entries c.args.storage.now) left c.args.out.now.items c.loop-key.out.items) c.in-Some.ensures.steps c.loop-key.invariant in
    let keyed = follows_before nat_list_cmp_total c.args.storage.now whole.added.front c.next.new.self c.in-Some.key.now c.in-Some.value.now whole.added.parts in
    one_added_whole g (fin.entries c.args.storage.now) c.next.new.self (c.in-Some.key.now, c.in-Some.value.now) c.args.out.now.items c.loop-key.out.items c.write_value.new.out.items whole
    (λ last. c.in_ok-write_value.ensures.ok)
    (((c.in_ok-write_value.ensures.key, refl), (refl, keyed)), ((c.in_ok-write_value.ensures.value, refl), (refl, refl)))
