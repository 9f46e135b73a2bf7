use Rattle.std.proofs.Common.{◌∙◌, ap, refl}
use Rattle.std.proofs.lemmas.Result.{on_ok_weaker}
use Rattle.paged_memory.specs.Seen.{seen_from}
use Rattle.paged_memory.proofs.Ranges.{lift_seen, whole_lifted}
use Rattle.paged_memory.proofs.Sight.{none_lifted}
use Rattle.paged_memory.proofs.Writing.{on_result, whole_by}
use Rattle.paged_memory.proofs.writes.lift_range.Goals as goal

pub returns-clause-ok : goal.returns-clause-ok
returns-clause-ok c =
    on_ok_weaker c.lift.result
    (λ e. ap (λ rs. seen_from 0 rs c.args.held.now.bytes) e ∙ lift_seen c.args.held.now c.args.first c.args.count c.requires.whole c.requires.low c.requires.high)
    c.lift.ensures.ok

pub returns-clause-whole : goal.returns-clause-whole
returns-clause-whole c =
    on_result c.lift.result c.lift.ensures.ok c.lift.ensures.err
    (λ e. whole_by _ c.lift.new.self c.args.held.now.bytes e refl (whole_lifted c.args.held.now c.args.first c.args.count c.requires.whole c.requires.low c.requires.high))
    (λ e. whole_by c.args.held.now c.lift.new.self c.args.held.now.bytes e refl c.requires.whole)

pub returns-clause-held : goal.returns-clause-held
returns-clause-held c have = c.lift.ensures.held (none_lifted c.args.held.now c.args.first c.args.count c.requires.whole c.requires.high have)
