use Rattle.std.proofs.Common.{◌<◌, ◌^◌, ℕ, Result, sym, subst}
use Rattle.std.specs.Prelude.{IfOk}
use Rattle.paged_memory.specs.declared.access.Access.{Access}
use Rattle.paged_memory.specs.Seen.{seen}
use Rattle.paged_memory.proofs.ByteLaws.{loaded_small}
use Rattle.paged_memory.proofs.Sight.{whole_seen}
use Rattle.paged_memory.proofs.memory.Memory.load.Goals as goal

pub returns-clause-bounded : goal.returns-clause-bounded
returns-clause-bounded c =
    subst (λ (r : Result ℕ Access). IfOk r (λ value. value < 256 ^ c.args.width)) (sym c.load.ensures) (loaded_small (seen c.self.inside.pages) c.args.addr c.args.width (whole_seen c.self.inside.pages c.self.invariant))
