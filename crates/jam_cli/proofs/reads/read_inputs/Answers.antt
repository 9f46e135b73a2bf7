use Rattle.std.proofs.Common.{◌≡◌, get_or, take, ap, refl, ◌∙◌, sym, Err, IfSome, subst}
use Rattle.jam_outside.specs.Files.{content}
use Rattle.jam_outside.specs.Causes.{VaultState}
use Rattle.jam_cli.specs.Parts.{plain_inputs, inputs_in, AreHeld, NotRead}
use Rattle.jam_cli.proofs.Inputs.{nothing, at_index, ends, read_more, inputs_more}
use Rattle.jam_cli.proofs.reads.read_inputs.Goals as goal

pub returns-in-Err-clause-not_read : goal.returns-in-Err-clause-not_read
returns-in-Err-clause-not_read g c =
    subst (λ (v : VaultState). NotRead c.end_of.result (plain_inputs c.args.inputs.now) v (g.V.Vault.state c.read_kept.new.vault)) c.loop-input.invariant.same
    (ends c.in-Err.refusal c.end_of.result (g.V.Vault.state c.loop-input.vault) _ c.args.inputs.now c.loop-input.input-index (get_or c.args.inputs.now c.loop-input.input-index nothing) c.loop-input.invariant.read.files
    (at_index c.args.inputs.now c.loop-input.input-index nothing c.loop-input-test.true)
    (subst (λ (v : VaultState). AreHeld v.files (plain_inputs (take c.loop-input.input-index c.args.inputs.now)) c.loop-input.invariant.read.files) (sym c.loop-input.invariant.same) c.loop-input.invariant.read.read)
    c.in-Err.ensures.state (λ e. c.in-Err.ensures.place (ap Err e)) (λ e. c.in-Err.ensures.too_long (ap Err e)) c.end_of.ensures)

pub returns-clause-keeps : goal.returns-clause-keeps
returns-clause-keeps g c = (c.loop-input.invariant.read.files, c.loop-input.invariant.read.are)

pub loop-input-preserved : goal.loop-input-preserved
loop-input-preserved g c =
    let k = c.loop-input.input-index in
    let x = get_or c.args.inputs.now k nothing in
    let at = at_index c.args.inputs.now k nothing c.loop-input-test.true in
    let read = c.in-Ok.ensures.read in
    let told : IfSome (g.V.Vault.state c.args.vault.now).files (λ files. read.0 ≡ content files x.name.now) =
    subst (λ (v : VaultState). IfSome v.files (λ files. read.0 ≡ content files x.name.now)) c.loop-input.invariant.same read.3 in
    record {
      same = c.in-Ok.ensures.state ∙ c.loop-input.invariant.same;
      inputs = ap inputs_in c.in_ok-push-in-Ok.ensures.items ∙ inputs_more c.args.inputs.now k x c.loop-input.all.items _ at refl c.loop-input.invariant.inputs;
      read = rw (c.in_ok-push-in-Ok.ensures.items) (read_more _ c.args.inputs.now k x c.loop-input.all.items _ read.0 at c.loop-input.invariant.read refl read.1 read.2 told);
    }
