-- The words for the kinds of refused lines.
use Rattle.std.specs.Prelude.{ℕ, List, codes}
use Rattle.pvm_asm.specs.declared.kind.AsmKind.{AsmKind}
use Rattle.pvm_asm.specs.declared.kind.AsmKind.TheVariants.{MissingHeader, UnknownName, Misplaced, BadOperands, OutOfRange, DoubleLabel, UnknownLabel}

abbrev pub kind_text : AsmKind → List ℕ
kind_text MissingHeader = codes "missing header"
kind_text UnknownName = codes "unknown name"
kind_text Misplaced = codes "misplaced directive"
kind_text BadOperands = codes "bad operands"
kind_text OutOfRange = codes "out of range"
kind_text DoubleLabel = codes "label defined twice"
kind_text UnknownLabel = codes "unknown label"
