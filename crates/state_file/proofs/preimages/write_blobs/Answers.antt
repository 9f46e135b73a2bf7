use Rattle.std.proofs.Common.{◌∙◌}
use Rattle.state_file.proofs.Maps.{none_written, one_written, all_written, all_fit}
use Rattle.state_file.proofs.preimages.write_blobs.Goals as goal

pub loop-hash-init : goal.loop-hash-init
loop-hash-init c = none_written c.args.preimages.now c.into_iter-hash-iterator.result c.args.out.now.items (c.into_iter-hash-iterator.ensures.into_iter_gives ∙ c.entries-hash-items.ensures.entries)

pub loop-hash-preserved : goal.loop-hash-preserved
loop-hash-preserved c =
    one_written c.args.preimages.now c.loop-hash._hash-iterator c.next.new.self c.in-Some._hash.now c.in-Some.bytes.now c.args.out.now.items c.loop-hash.out.items c.write_bytes.new.out.items
    c.loop-hash.invariant c.in-Some.ensures.steps c.in_ok-write_bytes.ensures.short c.entries-hash-items.ensures.stand c.in_ok-write_bytes.ensures.ok

pub returns-clause-ok : goal.returns-clause-ok
returns-clause-ok c = all_written c.args.preimages.now c.loop-hash._hash-iterator c.args.out.now.items c.loop-hash.out.items c.loop-hash.invariant c.in-None.ensures.steps.0

pub returns-clause-fits : goal.returns-clause-fits
returns-clause-fits c = all_fit c.args.preimages.now c.loop-hash._hash-iterator c.args.out.now.items c.loop-hash.out.items c.loop-hash.invariant c.in-None.ensures.steps.0

pub returns-clause-stand : goal.returns-clause-stand
returns-clause-stand c = c.entries-hash-items.ensures.stand
