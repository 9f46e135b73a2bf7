use Rattle.std.proofs.Common.{sym, ◌∙◌, ◌∷◌, ℕ, List, subst, option_map}
use Rattle.std.specs.FinMap as fin
use Rattle.jam_codec.specs.Lists.{hash_and_number_after, map_entry}
use Rattle.jam_codec.specs.FormatLaws.{hash_and_number_total}
use Rattle.jam_fields.specs.Rows.{last_item}
use Rattle.jam_fields.specs.ItemLaws.{AddedWhole, none_added_whole, one_added_whole}
use Rattle.state_file.specs.StateFile.{history_format}
use Rattle.state_file.proofs.Maps.{follows_before, hash_from}
use Rattle.state_file.proofs.lookups.write_entries.Goals as goal

pub loop-hash-init : goal.loop-hash-init
loop-hash-init c =
    subst (λ left. AddedWhole (map_entry hash_and_number_after history_format) (fin.entries c.args.lookups.now) left c.args.out.now.items c.args.out.now.items)
    (sym c.entries-hash-items.ensures ∙ sym c.into_iter-hash-iterator.ensures.into_iter_gives) (none_added_whole (map_entry hash_and_number_after history_format) (fin.entries c.args.lookups.now) c.args.out.now.items)

pub loop-hash-preserved : goal.loop-hash-preserved
loop-hash-preserved c =
    let g = map_entry hash_and_number_after history_format in
    let whole : AddedWhole g (fin.entries c.args.lookups.now) (((c.in-Some.hash.now, c.in-Some.length), c.in-Some.history) ∷ c.next.new.self) c.args.out.now.items c.loop-hash.out.items =
    subst (λ left. AddedWhole g (fin.entries c.args.lookups.now) left c.args.out.now.items c.loop-hash.out.items) c.in-Some.ensures.steps c.loop-hash.invariant in
    let keyed = follows_before hash_and_number_total c.args.lookups.now whole.added.front c.next.new.self (c.in-Some.hash.now, c.in-Some.length) c.in-Some.history whole.added.parts in
    one_added_whole g (fin.entries c.args.lookups.now) c.next.new.self ((c.in-Some.hash.now, c.in-Some.length), c.in-Some.history) c.args.out.now.items c.loop-hash.out.items c.write_history.new.out.items whole
    (λ last. c.in_ok-write_history.ensures.ok last)
    (((c.in_ok-write_history.ensures.hash, hash_from (option_map (λ (e : (List ℕ × ℕ) × List ℕ). e.0) (last_item whole.added.front)) c.in-Some.hash.now c.in-Some.length keyed), (c.in_ok-write_history.ensures.number, keyed)), c.in_ok-write_history.ensures.fits)
