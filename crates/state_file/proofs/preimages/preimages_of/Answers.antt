use Rattle.std.proofs.Common.{ap, ◌∙◌, ℕ, List, arith, map}
use Rattle.std.specs.FinMap as fin
use Rattle.std.specs.Cmp.Lexicographic.{nat_list_cmp_total}
use Rattle.blake2b_core.specs.Blake2b.{digest}
use Rattle.state_file.specs.StateFile.{under_digest}
use Rattle.state_file.proofs.Maps.{none_put, one_put, all_put, length-under}
use Rattle.state_file.proofs.preimages.preimages_of.Goals as goal

pub loop-row-init : goal.loop-row-init
loop-row-init c = none_put nat_list_cmp_total c.new-preimages.result (map under_digest c.into_iter-row-iterator.result.rest.items) (map under_digest c.args.rows.items) c.new-preimages.ensures (ap (map under_digest) c.into_iter-row-iterator.ensures.into_iter_gives.0)

pub loop-row-preserved : goal.loop-row-preserved
loop-row-preserved c =
    one_put nat_list_cmp_total c.loop-row.preimages c.put_under.new.self (map under_digest c.loop-row.row-iterator.rest.items) (map under_digest c.next.new.self.rest.items) (map under_digest c.args.rows.items) (digest c.in-Some.row) c.in-Some.row c.requires c.loop-row.invariant (ap (map under_digest) c.in-Some.ensures.steps.0)
    (c.in_ok-put_under.ensures.ok ∙ ap (λ (hash : List ℕ). fin.insert c.loop-row.preimages hash c.into_bytes.result.items) c.hash-hash.ensures ∙ ap (λ (bytes : List ℕ). fin.insert c.loop-row.preimages (digest c.in-Some.row) bytes) c.into_bytes.ensures)

pub returns : goal.returns
returns c = all_put nat_list_cmp_total c.loop-row.preimages (map under_digest c.loop-row.row-iterator.rest.items) (map under_digest c.args.rows.items) c.requires c.loop-row.invariant (length-under c.loop-row.row-iterator.rest.items ∙ omega (arith, c.in-None.ensures.steps.0, c.loop-row.row-iterator.rest.ok))
