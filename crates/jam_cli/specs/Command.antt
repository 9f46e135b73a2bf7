-- The work of each command: what it prints and stores, or the line of a text that it refuses, as a function of its arguments and of the values of its files.
use Rattle.std.specs.Prelude.{ℕ, ◌+◌, ◌-◌, List, [], ◌∷◌, ◌++◌, length, map, Ok, Err, Result, Option, Some, None, ◌≡◌, ◌==◌, if◌then◌else◌}
use Rattle.std.specs.Str.{IsUtf8}
use Rattle.std.specs.Str.Lossy.{utf8_valid_len}
use Rattle.std.specs.FinMap as fin
use Rattle.jam_codec.specs.Format.{Format, Spells, from}
use Rattle.jam_codec.specs.Laws.{Longest}
use Rattle.blob_decode.specs.Program as blob
use Rattle.program_init.specs.Standard as standard
use Rattle.program_init.specs.FirstState.{first_machine}
use Rattle.pvm_step.specs.declared.exit.Exit.{Exit}
use Rattle.pvm_step.specs.History.{Moment, answer, raw, output_of}
use Rattle.pvm_step.specs.Machine.{moment}
use Rattle.pvm_invoke.specs.Outcome.{Outcome}
use Rattle.pvm_asm.specs.declared.kind.AsmKind.{AsmKind}
use Rattle.pvm_asm.specs.Assembly.{assembly}
use Rattle.pvm_disasm.specs.Listing.{listing}
use Rattle.trace_text.specs.declared.line.Line.{Line}
use Rattle.trace_text.specs.declared.line.Line.TheVariants as of
use Rattle.trace_text.specs.Transcript.{text_of, block, state_lines}
use Rattle.trace_text.specs.Traces.{trace_lines}
use Rattle.blake2b_core.specs.Blake2b.{digest}
use Rattle.jam_accounts.specs.Accounts as services
use Rattle.state_file.specs.StateFile.{state_format}
use Rattle.batch_file.specs.declared.batch.Batch as work_batch
use Rattle.batch_file.specs.BatchFile.{batch_format}
use Rattle.batch_accumulate.specs.declared.posterior.Posterior.{Posterior}
use Rattle.batch_accumulate.specs.Batch.{posterior_of}
use Rattle.jam_outside.specs.Files.{Files, content}
use Rattle.jam_cli.specs.declared.verb.Kind.{Kind}
use Rattle.jam_cli.specs.declared.verb.Kind.TheVariants.{Program, Standard, Bytes, State, Batch, Text}
use Rattle.jam_cli.specs.declared.verb.Verb.{Verb}
use Rattle.jam_cli.specs.declared.verb.Verb.TheVariants as the
use Rattle.jam_cli.specs.Table.{row, Input, Arguments, Command, command, inputs}

-- ---- What files hold

-- the type of the values of a kind
abbrev pub ValueOf : Kind → Type 0
ValueOf Program = blob.Program
ValueOf Standard = standard.Standard blob.Program
ValueOf Bytes = List ℕ
ValueOf State = services.State
ValueOf Batch = work_batch.Batch
ValueOf Text = List ℕ

-- bytes as they are: all of them are one field, which always spells
abbrev pub all_bytes : Format (List ℕ)
all_bytes = record { Fits = λ x. Unit {0}; spell = λ x. x; Run = λ run. Unit {0}; read = λ r. Ok (r.rest, from (r.place + length r.rest) []) }

-- a text: all bytes are one field, which spells where they are UTF-8; no part of them is a field of its own
abbrev pub text_format : Format (List ℕ)
text_format = record {
  Fits = IsUtf8;
  spell = λ x. x;
  Run = λ run. run ≡ [];
  read = λ r. if utf8_valid_len r.rest == length r.rest then Ok (r.rest, from (r.place + length r.rest) []) else Err r.place;
}

abbrev pub format_of : (kind : Kind) → Format (ValueOf kind)
format_of Program = blob.program_blob
format_of Standard = standard.standard_program
format_of Bytes = all_bytes
format_of State = state_format
format_of Batch = batch_format
format_of Text = text_format

-- the bytes spell a value of the kind
abbrev pub IsSpelled : Kind → List ℕ → Type 0
IsSpelled kind bytes = (value : ValueOf kind) × Spells (format_of kind) value bytes

-- they spell none, and the longest run of whole fields ends at the place
abbrev pub IsRefusedAt : Kind → List ℕ → ℕ → Type 0
IsRefusedAt kind bytes place = Longest (format_of kind).Run (from 0 bytes) place × (IsSpelled kind bytes → ⊥)

-- a file of a command, and what it holds
pub record File : Type 0 where
  pub input : Input
  pub bytes : List ℕ

-- the files of inputs; a name that is not there stands for no bytes
abbrev pub held : Files → List Input → List File
held files is = map (λ (i : Input). record { input = i; bytes = content files i.name }) is

abbrev pub kinds : List Input → List Kind
kinds is = map (λ (i : Input). i.kind) is

-- a value for each kind
abbrev pub Values : List Kind → Type 0
Values [] = Unit {0}
Values (kind ∷ ks) = ValueOf kind × Values ks

-- each file spells the value of its kind
abbrev pub SpellAll : (ks : List Kind) → Values ks → List File → Type 0
SpellAll [] values [] = Unit {0}
SpellAll [] values (f ∷ fs) = ⊥
SpellAll (kind ∷ ks) values [] = ⊥
SpellAll (kind ∷ ks) values (f ∷ fs) = Spells (format_of kind) values.0 f.bytes × SpellAll ks values.1 fs

-- ---- What is made of them

-- what is printed; and the name and the bytes that are stored, if anything is
pub record Product : Type 0 where
  pub printed : List ℕ
  pub entry : Option (List ℕ × List ℕ)

-- the work of a command: what it makes; or the line of a text that it refuses, from 1, and why
pub data Work : Type 0 where
  made : (product : Product) → Work
  bad_line : (line : ℕ) (kind : AsmKind) → Work

abbrev pub prints : List Line → Work
prints lines = made (record { printed = text_of lines; entry = None })

-- the outcome of a run with so much gas, by its last state
abbrev pub outcome_by : ℕ → Moment → Exit → Outcome
outcome_by gas m exit = record { exit = exit; used = gas - m.gas; left = m.gas; pc = m.state.pc; registers = m.state.registers; output = output_of m }

-- the block of that state, which has an exit
abbrev pub run_lines : ℕ → Moment → Option Exit → List Line
run_lines gas m None = []
run_lines gas m (Some exit) = block (outcome_by gas m exit)

-- run: the raw machine's run from place 0
abbrev pub run_work : blob.Program → ℕ → Work
run_work program gas = let m : Moment = answer program (raw 0 gas) in prints (run_lines gas m m.exit)

-- trace: the run of a standard program's machine; the lines of its last instructions, and its block
abbrev pub trace_work : standard.Standard blob.Program → ℕ → ℕ → List ℕ → ℕ → Work
trace_work program entry gas args last =
    let first : Moment = moment (first_machine program entry gas args) None in
    let m : Moment = answer program.code first in
    prints (trace_lines last program.code first ++ run_lines gas m m.exit)

-- show: the lines of the state
abbrev pub show_work : services.State → Work
show_work state = prints (state_lines state)

-- hash: the digest of the file
abbrev pub hash_work : List ℕ → Work
hash_work bytes = prints (of.Digest (digest bytes) ∷ [])

-- what a text is assembled to is stored, and its size and digest are printed; or its first refused line
abbrev pub assembled : List ℕ → Result (List ℕ) (ℕ × AsmKind) → Work
assembled name (Ok bytes) = made (record { printed = text_of (of.Size (length bytes) (digest bytes) ∷ []); entry = Some (name, bytes) })
assembled name (Err refusal) = bad_line refusal.0 refusal.1

-- asm: the assembly of the text
abbrev pub asm_work : List ℕ → List ℕ → Work
asm_work text name = assembled name (assembly text)

-- disasm: the listing of the program
abbrev pub disasm_work : blob.Program → Work
disasm_work program = made (record { printed = listing program; entry = None })

-- the lines of a batch that makes no group; its own lines, and the digest of the posterior's bytes
abbrev pub batch_lines : Posterior → List ℕ → List Line
batch_lines p bytes =
    of.Slot p.state.slot ∷ (of.LeftOut p.left_out ∷ (of.Preimages p.preimages ∷ (of.Accounts (fin.len p.state.accounts) ∷ (of.State (digest bytes) ∷ []))))

-- accumulate: the posterior of the batch, which is stored
abbrev pub accumulate_work : services.State → work_batch.Batch → List ℕ → Work
accumulate_work prior batch name =
    let posterior : Posterior = posterior_of prior batch in
    let bytes : List ℕ = state_format.spell posterior.state in
    made (record { printed = text_of (batch_lines posterior bytes); entry = Some (name, bytes) })

-- the work of a verb
abbrev pub work_of : (verb : Verb) (arguments : Arguments (row verb).parts) → Values (kinds (inputs (command verb arguments))) → Work
work_of the.Run arguments values = run_work values.0 arguments.1.0
work_of the.Trace arguments values = trace_work values.0 arguments.1.0 arguments.1.1.0 arguments.1.1.1.0 arguments.1.1.1.1.0
work_of the.Show arguments values = show_work values.0
work_of the.Hash arguments values = hash_work values.0
work_of the.Asm arguments values = asm_work values.0 arguments.1.0
work_of the.Disasm arguments values = disasm_work values.0
work_of the.Accumulate arguments values = accumulate_work values.0 values.1.0 arguments.1.1.0

abbrev pub work : (c : Command) → Values (kinds (inputs c)) → Work
work c values = work_of c.verb c.arguments values
