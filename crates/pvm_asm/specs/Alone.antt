-- What a line gives that stands alone: it has no label and names none, so its text and its place tell all (this project's own).
use Rattle.std.specs.Prelude.{ℕ, ◌&&◌, List, Option, Some, None, is_some, if◌then◌else◌}
use Rattle.pvm_asm.specs.Labels.{no_labels}
use Rattle.pvm_asm.specs.Assembly.{instruction_fits, instruction_bytes, is_known}
use Rattle.pvm_asm.specs.declared.line.Statement.{Statement}
use Rattle.pvm_asm.specs.declared.line.Statement.TheVariants as statement
use Rattle.pvm_asm.specs.declared.line.Line.{Line}

-- the bytes of the unit that a statement gives at a place: a unit's own, or an instruction's, where it fits there and names no label
abbrev pub statement_code : ℕ → Statement → Option (List ℕ)
statement_code place (statement.Unit bytes) = Some bytes
statement_code place (statement.Instruction i) =
    if instruction_fits place i && is_known no_labels i.target then Some (instruction_bytes no_labels place i) else None
statement_code place _ = None

-- the same of a line without a label
abbrev pub line_code : ℕ → Line → Option (List ℕ)
line_code place line = if is_some line.label then None else statement_code place line.statement
