use Rattle.std.proofs.Common.{ap, ◌∙◌, ℕ, List, arith}
use Rattle.std.specs.FinMap as fin
use Rattle.std.specs.Cmp.Lexicographic.{nat_list_cmp_total}
use Rattle.state_file.proofs.Maps.{none_put, one_put, all_put}
use Rattle.state_file.proofs.storage.storage_of.Goals as goal

pub loop-key-init : goal.loop-key-init
loop-key-init c = none_put nat_list_cmp_total c.new-storage.result c.into_iter-key-iterator.result.rest.items c.args.entries.items c.new-storage.ensures c.into_iter-key-iterator.ensures.into_iter_gives.0

pub loop-key-preserved : goal.loop-key-preserved
loop-key-preserved c =
    one_put nat_list_cmp_total c.loop-key.storage c.put.new.self c.loop-key.key-iterator.rest.items c.next.new.self.rest.items c.args.entries.items c.in-Some.key c.in-Some.value c.requires c.loop-key.invariant c.in-Some.ensures.steps.0
    (c.in_ok-put.ensures.ok ∙ ap (λ (k : List ℕ). fin.insert c.loop-key.storage k c.into_vec-in-loop-key.result.items) c.into_vec.ensures ∙ ap (λ (v : List ℕ). fin.insert c.loop-key.storage c.in-Some.key v) c.into_vec-in-loop-key.ensures)

pub returns : goal.returns
returns c = all_put nat_list_cmp_total c.loop-key.storage c.loop-key.key-iterator.rest.items c.args.entries.items c.requires c.loop-key.invariant (omega (arith, c.in-None.ensures.steps.0, c.loop-key.key-iterator.rest.ok))
