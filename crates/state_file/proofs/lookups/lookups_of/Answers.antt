use Rattle.std.proofs.Common.{ap, ◌∙◌, ◌≡◌, ℕ, List, arith}
use Rattle.std.specs.FinMap as fin
use Rattle.jam_codec.specs.FormatLaws.{hash_and_number_total}
use Rattle.state_file.proofs.Maps.{none_put, one_put, all_put}
use Rattle.state_file.proofs.Octets.{none_small, one_small, all_small}
use Rattle.state_file.proofs.lookups.lookups_of.Goals as goal

pub loop-key-init : goal.loop-key-init
loop-key-init c = record {
  made = none_put hash_and_number_total c.new-lookups.result c.into_iter-key-iterator.result.rest.items c.args.entries.items c.new-lookups.ensures c.into_iter-key-iterator.ensures.into_iter_gives.0;
  small = none_small c.new-lookups.result c.new-lookups.ensures;
}

pub loop-key-preserved : goal.loop-key-preserved
loop-key-preserved c =
    let put : c.put.new.self ≡ fin.insert c.loop-key.lookups c.in-Some.key c.in-Some.slots =
    c.in_ok-put.ensures.ok ∙ ap (λ (n : ℕ). fin.insert c.loop-key.lookups (c.key.inside.hash, n) c.slots.inside.history) c.number.ensures.value
    ∙ ap (λ (k : List ℕ × ℕ). fin.insert c.loop-key.lookups (k.0, c.in-Some.key.1) c.slots.inside.history) c.key.view_is ∙ ap (λ (h : List ℕ). fin.insert c.loop-key.lookups c.in-Some.key h) c.slots.view_is in
    record {
      made = one_put hash_and_number_total c.loop-key.lookups c.put.new.self c.loop-key.key-iterator.rest.items c.next.new.self.rest.items c.args.entries.items c.in-Some.key c.in-Some.slots c.requires c.loop-key.invariant.made c.in-Some.ensures.steps.0 put;
      small = one_small c.loop-key.lookups c.put.new.self c.loop-key.key-iterator.rest.items c.next.new.self.rest.items c.args.entries.items c.in-Some.key c.in-Some.slots c.requires c.loop-key.invariant.made c.in-Some.ensures.steps.0 put c.number.ensures.small c.loop-key.invariant.small;
    }

pub returns-clause-made : goal.returns-clause-made
returns-clause-made c = all_put hash_and_number_total c.loop-key.lookups c.loop-key.key-iterator.rest.items c.args.entries.items c.requires c.loop-key.invariant.made (omega (arith, c.in-None.ensures.steps.0, c.loop-key.key-iterator.rest.ok))

pub returns-clause-small : goal.returns-clause-small
returns-clause-small c = all_small c.loop-key.lookups c.loop-key.key-iterator.rest.items c.args.entries.items c.loop-key.invariant.made (omega (arith, c.args.entries.ok, c.args.entries.small)) c.loop-key.invariant.small
