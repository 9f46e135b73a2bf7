use Rattle.std.proofs.Common.{◌≡◌, take}
use Rattle.jam_cli.specs.Parts.{plain_inputs, inputs_in, AreReadFiles}
use Rattle.jam_cli.proofs.reads.read_inputs.Given as goal

abbrev pub invariant-loop-input : goal.invariant-loop-input
invariant-loop-input g l = record {
  same : g.V.Vault.state l.vault ≡ g.V.Vault.state l.fn.vault;
  inputs : inputs_in l.all.items ≡ plain_inputs (take l.input-index l.inputs);
  read : AreReadFiles (g.V.Vault.state l.fn.vault).files (plain_inputs (take l.input-index l.inputs)) l.all.items;
}
