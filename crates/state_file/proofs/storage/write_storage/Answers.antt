use Rattle.std.proofs.Common.{ap, ◌∙◌, ◌++◌, ℕ, List, None, arith, length}
use Rattle.std.specs.FinMap as fin
use Rattle.state_file.proofs.Maps.{on_ok-and, counted, count_fits}
use Rattle.jam_codec.specs.Format.{any, items_spelled}
use Rattle.jam_codec.specs.Lists.{blob_where, blob_after, map_entry}
use Rattle.state_file.proofs.storage.write_storage.Goals as goal

pub returns-clause-ok : goal.returns-clause-ok
returns-clause-ok c =
    on_ok-and c.write_entries.result
    (λ written. written ∙ ap (λ (bytes : List ℕ). bytes ++ items_spelled (map_entry blob_after (blob_where any)) None (fin.entries c.args.storage.now)) c.in_ok-push_natural.ensures.ok
    ∙ counted c.args.out.now.items c.len.result (length (fin.entries c.args.storage.now)) (items_spelled (map_entry blob_after (blob_where any)) None (fin.entries c.args.storage.now)) (c.len.ensures.count ∙ fin.len-entries c.args.storage.now))
    c.write_entries.ensures.ok

pub returns-clause-fits : goal.returns-clause-fits
returns-clause-fits c =
    on_ok-and c.write_entries.result
    (λ fit. (count_fits (length (fin.entries c.args.storage.now)) (omega (arith, c.len.ensures.small, c.len.ensures.count, fin.len-entries c.args.storage.now)), fit))
    c.write_entries.ensures.fits
