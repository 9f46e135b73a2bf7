use Rattle.std.proofs.Common.{arith, rules, ◌≡◌, Some}
use Rattle.jam_codec.specs.Reading.{natural_of}
use Rattle.jam_codec.specs.NaturalLaws.{natural_of-found}
use Rattle.jam_codec.proofs.natural.split_natural.Goals as goal

pub returns-clause-found : goal.returns-clause-found
unfolding natural_of
returns-clause-found c =
    let exact : natural_of c.args.bytes.now ≡ Some (c.joined-value.result, c.split_at.result.1.now) = search rules in
    natural_of-found c.args.bytes.now c.joined-value.result c.split_at.result.1.now (λ k. omega (arith, c.type_inv.bytes k)) exact
