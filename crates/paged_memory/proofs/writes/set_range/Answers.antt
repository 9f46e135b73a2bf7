use Rattle.std.proofs.Common.{◌∙◌, ap, sym}
use Rattle.paged_memory.specs.PageMap.{set_pages}
use Rattle.paged_memory.specs.Seen.{seen, seen_from}
use Rattle.paged_memory.proofs.Ranges.{not_kept, is_kept, set_kept, set_zeroed, whole_kept, whole_zeroed}
use Rattle.paged_memory.proofs.Sight.{have_already}
use Rattle.paged_memory.proofs.Writing.{whole_by}
use Rattle.paged_memory.proofs.writes.set_range.Goals as goal

pub returns-then-keeps-clause-ok : goal.returns-then-keeps-clause-ok
returns-then-keeps-clause-ok c =
    let held = c.args.held.now in
    let kept = is_kept c.args.rights c.args.keep (sym c.keeps.ensures ∙ c.if-keeps.true) in
    ap (λ rs. seen_from 0 rs held.bytes) c.in_ok-set.ensures.ok
    ∙ set_kept held c.args.first c.args.count c.requires.whole c.requires.low c.requires.high c.args.rights kept.1 (c.requires.kept kept.0)
    ∙ ap (λ b. set_pages (seen held) c.args.first c.args.count c.args.rights b) (sym kept.0)

pub returns-then-keeps-clause-whole : goal.returns-then-keeps-clause-whole
returns-then-keeps-clause-whole c =
    let kept = is_kept c.args.rights c.args.keep (sym c.keeps.ensures ∙ c.if-keeps.true) in
    whole_by _ c.set.new.self c.args.held.now.bytes c.in_ok-set.ensures.ok (λ _. c.args.held.now.bytes) (whole_kept c.args.held.now c.args.first c.args.count c.requires.whole c.requires.low c.requires.high c.args.rights kept.1)

pub returns-clause-ok : goal.returns-clause-ok
returns-clause-ok c =
    (λ j. seen_from 0 (c.in_ok-set.ensures.ok j) (c.zero.ensures j))
    ∙ set_zeroed c.args.held.now c.args.first c.args.count c.requires.whole c.requires.low c.requires.high c.args.rights c.args.keep (not_kept c.args.rights c.args.keep (sym c.keeps.ensures ∙ c.if-keeps.false))

pub returns-clause-whole : goal.returns-clause-whole
returns-clause-whole c = whole_by _ c.set.new.self c.zero.new.self c.in_ok-set.ensures.ok c.zero.ensures (whole_zeroed c.args.held.now c.args.first c.args.count c.requires.whole c.requires.low c.requires.high c.args.rights)

pub returns-in_err-set-clause-held : goal.returns-in_err-set-clause-held
returns-in_err-set-clause-held c have =
    let never = c.in_err-set.ensures.held (have_already c.args.held.now c.args.first c.args.count c.args.rights c.requires.whole c.requires.high have) in
    absurd (cc)
