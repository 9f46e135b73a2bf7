use Rattle.std.proofs.Common.{◌≡◌, ◌++◌, ℕ, List, Bool, length, drop, ap, ◌∙◌, arith, string_bytes}
use Rattle.std.proofs.lemmas.Result.{IfOk-weaker}
use Rattle.pvm_asm.specs.Words.{operands_of}
use Rattle.pvm_asm.specs.Statements.{instruction_statement}
use Rattle.pvm_asm.specs.Alone.{statement_code}
use Rattle.pvm_isa.specs.Opcodes.{name_of}
use Rattle.pvm_disasm.specs.Units.{is_unit_given, instruction_text, assembles}
use Rattle.pvm_disasm.proofs.Named.{named-assembles, name-within}
use Rattle.pvm_disasm.proofs.unit.UnitWriter.is_named.Goals as goal

pub gives-requires : goal.gives-requires
gives-requires c =
    let line : string_bytes c.push_instruction.new.line ≡ instruction_text c.args.op c.args.args.now c.args.to =
    c.in_ok-push_instruction.ensures ∙ ap (λ t. t ++ instruction_text c.args.op c.args.args.now c.args.to) c.clear.ensures.bytes in
    omega (arith, ap length c.name_of.ensures, ap length line, name-within c.args.op c.args.args.now c.args.to)

pub returns-clause-named : goal.returns-clause-named
returns-clause-named c =
    let line : string_bytes c.push_instruction.new.line ≡ instruction_text c.args.op c.args.args.now c.args.to =
    c.in_ok-push_instruction.ensures ∙ ap (λ t. t ++ instruction_text c.args.op c.args.args.now c.args.to) c.clear.ensures.bytes in
    let by : List ℕ → List ℕ → Bool = λ (name text : List ℕ). is_unit_given c.args.unit.now (statement_code c.args.place (instruction_statement c.args.op (operands_of (drop (length name) text)))) in
    let same : by c.name_of.result.now (string_bytes c.push_instruction.new.line) ≡ assembles c.args.place c.args.unit.now (instruction_text c.args.op c.args.args.now c.args.to) =
    ap (λ n. by n (string_bytes c.push_instruction.new.line)) c.name_of.ensures ∙ ap (by (name_of c.args.op)) line ∙ named-assembles c.args.op c.args.args.now c.args.to c.args.place c.args.unit.now in
    IfOk-weaker c.gives.result (λ found. found ≡ by c.name_of.result.now (string_bytes c.push_instruction.new.line))
    (λ found. found ≡ assembles c.args.place c.args.unit.now (instruction_text c.args.op c.args.args.now c.args.to)) (λ found e. e ∙ same) c.gives.ensures.found
