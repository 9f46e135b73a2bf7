-- The first state of a standard program (Gray Paper 0.7.0, appendix A.7; the heap's bounds are this project's own).
use Rattle.std.specs.Prelude.{ℕ, ◌+◌, ◌-◌, ◌*◌, ◌^◌, List, [], ◌∷◌, length}
use Rattle.gas_ledger.specs.Schedule.{plain}
use Rattle.blob_decode.specs.Program.{Program}
use Rattle.pvm_step.specs.Effect.{Heap}
use Rattle.pvm_step.specs.Machine.{Machine}
use Rattle.program_init.specs.Standard.{Standard}
use Rattle.program_init.specs.Areas.{in_pages, in_zones, writable_start, stack_end, arguments_start, first_memory}

-- 13 registers: where a return halts, the end of the stack, and where the arguments begin and how many bytes they have
abbrev pub first_registers : List ℕ → List ℕ
first_registers args =
    (2 ^ 32 - 2 ^ 16) ∷ (stack_end ∷ (0 ∷ (0 ∷ (0 ∷ (0 ∷ (0 ∷ (arguments_start ∷ (length args ∷ (0 ∷ (0 ∷ (0 ∷ (0 ∷ []))))))))))))

-- the heap goes on where the area that may be written ends, and ends a zone below the zones of the stack
abbrev pub first_heap : {Code : Type 0} → Standard Code → Heap
first_heap s = record {
  next = writable_start (length s.read_only) + in_pages (length s.writable) + 4096 * s.heap_pages;
  end = 2 ^ 32 - 3 * 2 ^ 16 - 2 ^ 24 - in_zones s.stack;
}

-- the machine of a standard program, at an entry, with gas and arguments, and with the plain schedule
abbrev pub first_machine : Standard Program → ℕ → ℕ → List ℕ → Machine
first_machine s entry gas args = record {
  program = s.code;
  pc = entry;
  registers = first_registers args;
  memory = first_memory s args;
  heap = first_heap s;
  gas = gas;
  costs = plain;
}
