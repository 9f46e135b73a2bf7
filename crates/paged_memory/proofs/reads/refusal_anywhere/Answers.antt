use Rattle.std.proofs.Common.{◌+◌, ◌%◌, ◌^◌, ◌∙◌, ap, sym, arith, ℕ, Some}
use Rattle.page_rights.specs.declared.rights.Rights.{Rights}
use Rattle.paged_memory.specs.PageMap.{reaches}
use Rattle.paged_memory.specs.Seen.{seen}
use Rattle.paged_memory.proofs.ByteLaws.{lowest_more_at, lowest_same_at, none_at_end}
use Rattle.paged_memory.proofs.reads.refusal_anywhere.Goals as goal

pub places-init : goal.places-init
places-init c = none_at_end (seen c.args.held.now) c.args.need c.args.addr c.args.width

pub places-preserved-then-not-reaches : goal.places-preserved-then-not-reaches
places-preserved-then-not-reaches c =
    ap (λ (x : ℕ). Some x) c.lower.ensures
    ∙ lowest_more_at (seen c.args.held.now) c.args.need c.args.addr c.places.k c.args.width ((c.args.addr + c.from.result) % 2 ^ 32) c.places.lowest (omega arith) (omega arith)
    (ap (λ (k : ℕ). (c.args.addr + k) % 2 ^ 32) c.from.ensures)
    (ap (λ (r : Rights). reaches r c.args.need) (sym c.rights_of.ensures) ∙ sym c.reaches.ensures ∙ c.if-not-reaches.true)
    c.places.invariant

pub places-preserved : goal.places-preserved
places-preserved c =
    lowest_same_at (seen c.args.held.now) c.args.need c.args.addr c.places.k c.args.width ((c.args.addr + c.from.result) % 2 ^ 32) c.places.lowest (omega arith) (omega arith)
    (ap (λ (k : ℕ). (c.args.addr + k) % 2 ^ 32) c.from.ensures)
    (ap (λ (r : Rights). reaches r c.args.need) (sym c.rights_of.ensures) ∙ sym c.reaches.ensures ∙ c.if-not-reaches.false)
    c.places.invariant
