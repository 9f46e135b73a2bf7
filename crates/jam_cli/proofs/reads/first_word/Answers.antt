use Rattle.std.proofs.Common.{◌≡◌, inl, get_or, true}
use Rattle.jam_cli.proofs.Inputs.{nothing, at_index, first_named, none_more}
use Rattle.jam_cli.proofs.reads.first_word.Goals as goal

pub returns-then-is_name : goal.returns-then-is_name
returns-then-is_name c =
    inl (first_named c.args.inputs.now c.loop-input.input-index (get_or c.args.inputs.now c.loop-input.input-index nothing) c.args.name.now
    (at_index c.args.inputs.now c.loop-input.input-index nothing c.loop-input-test.true) c.loop-input.invariant (c.is_name.ensures.0 c.if-is_name.true))

pub loop-input-preserved : goal.loop-input-preserved
loop-input-preserved c =
    none_more c.args.inputs.now c.loop-input.input-index (get_or c.args.inputs.now c.loop-input.input-index nothing) c.args.name.now
    (at_index c.args.inputs.now c.loop-input.input-index nothing c.loop-input-test.true) c.loop-input.invariant
    (λ e. let told : c.is_name.result ≡ true = c.is_name.ensures.1 e in cc (told, c.if-is_name.false))
