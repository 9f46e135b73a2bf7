use Rattle.std.proofs.Common.{◌∙◌}
use Rattle.paged_memory.specs.Seen.{seen_from}
use Rattle.paged_memory.proofs.Sight.{seen_nothing, whole_nothing}
use Rattle.paged_memory.proofs.Writing.{whole_by}
use Rattle.paged_memory.proofs.memory.Memory.new.Goals as goal

pub invariant_of-result : goal.invariant_of-result
invariant_of-result c = whole_by _ c.new.result c.new-2.result c.new.ensures c.new-2.ensures whole_nothing

pub returns : goal.returns
returns c = (λ j. seen_from 0 (c.new.ensures j) (c.new-2.ensures j)) ∙ seen_nothing
