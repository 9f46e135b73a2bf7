use Rattle.std.proofs.Common.{ap, sym, ◌∙◌, ◌++◌, ℕ, List, None, arith, length}
use Rattle.std.specs.FinMap as fin
use Rattle.blake2b_core.specs.Blake2b.{digest}
use Rattle.jam_codec.specs.Format.{items_spelled}
use Rattle.jam_codec.specs.Lists.{blob_by_after}
use Rattle.state_file.proofs.Maps.{on_ok-and, on_ok-both, counted, count_fits, length-values}
use Rattle.state_file.proofs.preimages.write_preimages.Goals as goal

pub returns-clause-ok : goal.returns-clause-ok
returns-clause-ok c =
    on_ok-and c.write_blobs.result
    (λ written. written ∙ ap (λ (bytes : List ℕ). bytes ++ items_spelled (blob_by_after digest) None (fin.values c.args.preimages.now)) c.in_ok-push_natural.ensures.ok
    ∙ counted c.args.out.now.items c.len.result (length (fin.values c.args.preimages.now)) (items_spelled (blob_by_after digest) None (fin.values c.args.preimages.now)) (c.len.ensures.count ∙ fin.len-entries c.args.preimages.now ∙ sym (length-values (fin.entries c.args.preimages.now))))
    c.write_blobs.ensures.ok

pub returns-clause-fits : goal.returns-clause-fits
returns-clause-fits c =
    on_ok-both c.write_blobs.result
    (λ stand fit. (stand, (count_fits (length (fin.values c.args.preimages.now)) (omega (arith, c.len.ensures.small, c.len.ensures.count, fin.len-entries c.args.preimages.now, length-values (fin.entries c.args.preimages.now))), fit)))
    c.write_blobs.ensures.stand c.write_blobs.ensures.fits
