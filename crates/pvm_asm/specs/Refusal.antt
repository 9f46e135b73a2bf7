-- What a call that assembles answers.
use Rattle.std.specs.Prelude.{◌≡◌, ℕ, Option, Some, Result, Err}
use Rattle.pvm_asm.specs.declared.refusal.AsmRefusal.{AsmRefusal}
use Rattle.pvm_asm.specs.declared.refusal.AsmRefusal.TheVariants.{BadLine, NoMemory}
use Rattle.pvm_asm.specs.declared.kind.AsmKind.{AsmKind}

-- a refusal names the line and the kind; want of memory says nothing
abbrev pub IsRefusedLine : {A : Type 0} → Result A (ℕ × AsmKind) → AsmRefusal → Type 0
IsRefusedLine answer (BadLine line kind) = answer ≡ Err (line, kind)
IsRefusedLine answer NoMemory = Unit {0}

-- the same of the first refused line, where there is one
abbrev pub NamesLine : Option (ℕ × AsmKind) → AsmRefusal → Type 0
NamesLine found (BadLine line kind) = found ≡ Some (line, kind)
NamesLine found NoMemory = Unit {0}
