use Rattle.std.proofs.Common.{◌≡◌, ◌≢◌, None, refl, ◌∙◌}
use Rattle.pvm_isa.specs.Opcodes.{number_of, op_numbered}
use Rattle.pvm_isa.proofs.Table.{own-numbered, other-unnumbered, numbered-Defined}
use Rattle.pvm_isa.proofs.opcodes.op_of.Goals.{Then-number_of-byte, Else-number_of-byte}
use Rattle.pvm_isa.proofs.opcodes.op_of.Goals as goal

pub returns-then-number_of-byte-clause-numbered : goal.returns-then-number_of-byte-clause-numbered
returns-then-number_of-byte-clause-numbered c =
    let own : number_of c.op_or_trap-op.result ≡ c.args.byte = cc (c.number_of.ensures, c.if-number_of-byte.true) in
    own-numbered c.args.byte (op_numbered c.args.byte) c.op_or_trap-op.result refl c.op_or_trap-op.ensures own

none : (c : Else-number_of-byte) → None ≡ op_numbered c.args.byte
none c =
    let other : number_of c.op_or_trap-op.result ≢ c.args.byte = λ own. c.if-number_of-byte.false (c.number_of.ensures ∙ own) in
    other-unnumbered c.args.byte (op_numbered c.args.byte) c.op_or_trap-op.result refl c.op_or_trap-op.ensures other

pub returns-else-number_of-byte-clause-numbered : goal.returns-else-number_of-byte-clause-numbered
returns-else-number_of-byte-clause-numbered c = none c

pub returns-else-number_of-byte-clause-defined : goal.returns-else-number_of-byte-clause-defined
returns-else-number_of-byte-clause-defined c = numbered-Defined c.args.byte None (none c)
