use Rattle.std.proofs.Common.{◌≤◌, ◌<◌, length, sym, ap, ◌∙◌, arith}
use Rattle.pvm_disasm.proofs.Walks.{reaches-next, ended-begins, ended-past}
use Rattle.pvm_disasm.proofs.listing.next_unit.Goals as goal

pub places-preserved : goal.places-preserved
places-preserved c =
    let within : c.places.place < length c.args.program.now.code = omega (arith, ap length c.code.ensures.value) in
    reaches-next c.args.program.now.mask c.args.program.now.code c.args.from c.places.place c.code.ensures.masked within (sym c.mask_at.ensures ∙ c.if-mask_at.false) c.places.invariant

pub returns-then-mask_at-clause-lead : goal.returns-then-mask_at-clause-lead
returns-then-mask_at-clause-lead c =
    let within : c.places.place < length c.args.program.now.code = omega (arith, ap length c.code.ensures.value) in
    ended-begins c.args.program.now.mask c.args.program.now.code c.args.from c.places.place c.code.ensures.masked within (sym c.mask_at.ensures ∙ c.if-mask_at.true) c.places.invariant

pub returns-clause-lead : goal.returns-clause-lead
returns-clause-lead c =
    let past : length c.args.program.now.code ≤ c.places.place = omega (arith, ap length c.code.ensures.value) in
    ended-past c.args.program.now.mask c.args.program.now.code c.args.from c.places.place past c.places.invariant
