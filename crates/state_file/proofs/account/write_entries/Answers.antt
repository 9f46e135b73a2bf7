use Rattle.std.proofs.Common.{sym, ◌∙◌, ◌∷◌, subst}
use Rattle.std.specs.FinMap as fin
use Rattle.std.specs.Cmp.{nat_cmp_total}
use Rattle.jam_codec.specs.Lists.{number_after, map_entry}
use Rattle.jam_fields.specs.ItemLaws.{AddedWhole, none_added_whole, one_added_whole}
use Rattle.state_file.specs.StateFile.{account_format}
use Rattle.state_file.proofs.Maps.{follows_before, found_at}
use Rattle.state_file.proofs.account.write_entries.Goals as goal

pub loop-id-init : goal.loop-id-init
loop-id-init c =
    subst (λ left. AddedWhole (map_entry (number_after 4) (account_format c.args.version)) (fin.entries c.args.accounts.now) left c.args.out.now.items c.args.out.now.items)
    (sym c.entries-id-items.ensures ∙ sym c.into_iter-id-iterator.ensures.into_iter_gives) (none_added_whole (map_entry (number_after 4) (account_format c.args.version)) (fin.entries c.args.accounts.now) c.args.out.now.items)

pub loop-id-preserved : goal.loop-id-preserved
loop-id-preserved c =
    let g = map_entry (number_after 4) (account_format c.args.version) in
    let whole : AddedWhole g (fin.entries c.args.accounts.now) ((c.in-Some.id, c.in-Some.account.now) ∷ c.next.new.self) c.args.out.now.items c.loop-id.out.items =
    subst (λ left. AddedWhole g (fin.entries c.args.accounts.now) left c.args.out.now.items c.loop-id.out.items) c.in-Some.ensures.steps c.loop-id.invariant in
    let keyed = follows_before nat_cmp_total c.args.accounts.now whole.added.front c.next.new.self c.in-Some.id c.in-Some.account.now whole.added.parts in
    one_added_whole g (fin.entries c.args.accounts.now) c.next.new.self (c.in-Some.id, c.in-Some.account.now) c.args.out.now.items c.loop-id.out.items c.write_entry.new.out.items whole
    (λ last. c.in_ok-write_entry.ensures.ok)
    ((c.in_ok-write_entry.ensures.id, keyed), c.in_ok-write_entry.ensures.fits)

pub write_entry-requires : goal.write_entry-requires
write_entry-requires c =
    let g = map_entry (number_after 4) (account_format c.args.version) in
    let whole : AddedWhole g (fin.entries c.args.accounts.now) ((c.in-Some.id, c.in-Some.account.now) ∷ c.next.new.self) c.args.out.now.items c.loop-id.out.items =
    subst (λ left. AddedWhole g (fin.entries c.args.accounts.now) left c.args.out.now.items c.loop-id.out.items) c.in-Some.ensures.steps c.loop-id.invariant in
    c.requires c.in-Some.id c.in-Some.account.now (found_at nat_cmp_total c.args.accounts.now whole.added.front c.next.new.self c.in-Some.id c.in-Some.account.now whole.added.parts)
