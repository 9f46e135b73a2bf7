use Rattle.std.proofs.Common.{◌+◌, ◌%◌, ◌≤◌, ◌∙◌, ap, sym, arith}
use Rattle.page_rights.specs.declared.rights.Rights.{Rights}
use Rattle.paged_memory.specs.PageMap.{reaches}
use Rattle.paged_memory.specs.Seen.{seen}
use Rattle.paged_memory.proofs.ByteLaws.{lacks_at, has_piece, nothing_left}
use Rattle.paged_memory.proofs.reads.all_have.Goals as goal

pub returns-then-not-reaches : goal.returns-then-not-reaches
returns-then-not-reaches c =
    sym (c.pages.invariant.same
    ∙ lacks_at (seen c.args.held.now) c.args.need c.pages.address c.pages.rest c.pages-test.true
    (ap (λ (r : Rights). reaches r c.args.need) (sym c.rights_of.ensures) ∙ sym c.reaches.ensures ∙ c.if-not-reaches.true))

pub pages-preserved : goal.pages-preserved
pages-preserved c =
    let within : c.min-count.result ≤ c.pages.rest = omega arith in
    let room : c.pages.address % 4096 + c.min-count.result ≤ 4096 = omega arith in
    record {
      same =
          c.pages.invariant.same
          ∙ has_piece (seen c.args.held.now) c.args.need c.pages.address c.pages.rest c.min-count.result
          (ap (λ (r : Rights). reaches r c.args.need) (sym c.rights_of.ensures) ∙ sym c.reaches.ensures ∙ c.if-not-reaches.false) within room;
      end = omega arith;
    }

pub returns : goal.returns
returns c = sym (c.pages.invariant.same ∙ nothing_left (seen c.args.held.now) c.args.need c.pages.address c.pages.rest c.pages-test.false)
