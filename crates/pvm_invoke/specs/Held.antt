-- What the host of an invocation holds (Gray Paper 0.7.0, appendix B: the contexts of refine, accumulate and on-transfer; one
-- record for all three is this project's own).
use Rattle.std.specs.Prelude.{ℕ, List, Option}
use Rattle.std.specs.Ordering.{nat_cmp}
use Rattle.std.specs.FinMap as fin
use Rattle.blob_decode.specs.Program.{Program}
use Rattle.paged_memory.specs.PageMap.{Memory}
use Rattle.account_context.specs.Context.{Pair}

-- a machine that a program made: its program, its memory and its place
pub record InnerMachine : Type 0 where
  pub program : Program
  pub memory : Memory
  pub pc : ℕ

-- such machines under their indices
abbrev pub InnerMachines : Type 0
InnerMachines = fin.FinMap nat_cmp InnerMachine

-- what a host does not have is empty, or 0
pub record Held : Type 0 where
  -- the accounts at the start, now and as they were saved, and the service
  pub pair : Pair
  -- the slot and the entropy of the state or the batch
  pub slot : ℕ
  pub entropy : List ℕ
  -- the payload of a work item, and its imports, operands or transfers, each spelled
  pub payload : Option (List ℕ)
  pub pieces : List (List ℕ)
  -- the slot at which preimages are looked up
  pub lookup_slot : ℕ
  -- the segments that were exported, in order
  pub exports : List (List ℕ)
  pub machines : InnerMachines
