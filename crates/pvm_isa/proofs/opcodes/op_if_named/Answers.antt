use Rattle.std.proofs.Common.{◌≡◌, ap, sym, ◌∙◌}
use Rattle.std.proofs.lemmas.Slice.Eq.{bytes_eq-Decides}
use Rattle.pvm_isa.specs.Opcodes.{name_of}
use Rattle.pvm_isa.specs.OpcodeLaws.{number_of-injective}
use Rattle.pvm_isa.proofs.opcodes.op_if_named.Goals as goal

pub returns-else-eq : goal.returns-else-eq
returns-else-eq c = λ op numbered named.
    let same : op ≡ c.in_ok-op.op = number_of-injective op c.in_ok-op.op (numbered ∙ sym c.in_ok-op.ensures.defined) in
    let equal : c.name_of.result.now ≡ c.args.name.now = c.name_of.ensures ∙ ap name_of (sym same) ∙ named in
    cc ((bytes_eq-Decides c.name_of.result.now c.args.name.now).1 equal, c.eq.ensures, c.if-eq.false)
