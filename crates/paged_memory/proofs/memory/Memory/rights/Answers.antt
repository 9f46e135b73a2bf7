use Rattle.std.proofs.Common.{subst}
use Rattle.paged_memory.specs.PageMap.{HasWholePages}
use Rattle.paged_memory.proofs.Sight.{whole_seen}
use Rattle.paged_memory.proofs.memory.Memory.rights.Goals as goal

pub returns-clause-whole : goal.returns-clause-whole
returns-clause-whole c = subst HasWholePages c.self.view_is (whole_seen c.self.inside.pages c.self.invariant)
