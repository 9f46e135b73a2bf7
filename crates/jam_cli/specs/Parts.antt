-- What the parts of a call say. Proofs alone need this.
use Rattle.std.specs.Prelude.{◌≡◌, ◌⊎◌, ℕ, ◌≤◌, List, [], ◌∷◌, map, Option, Some, None, option_map, IfSome, Result, Ok, Err}
use Rattle.jam_outside.specs.Files.{Files}
use Rattle.jam_outside.specs.Causes.{VaultState, SinkState, Raised, Appends, AppendsPrefix, read_failed, store_made, store_done, store_failed}
use Rattle.jam_outside.specs.declared.whole.ReadRefusal.{ReadRefusal}
use Rattle.jam_outside.specs.declared.whole.ReadRefusal.TheVariants as read
use Rattle.blake2b_core.specs.Blake2b.{digest}
use Rattle.jam_codec.specs.declared.refusal.FileRefusal.{FileRefusal}
use Rattle.jam_codec.specs.declared.refusal.FileRefusal.TheVariants as codec
use Rattle.jam_cli.specs.declared.status.Status.{Status}
use Rattle.jam_cli.specs.declared.status.Status.TheVariants as status
use Rattle.jam_cli.specs.declared.refusal.Refusal.{Refusal}
use Rattle.jam_cli.specs.declared.refusal.Refusal.TheVariants.{NoMemory, BadWords, ReadFault, TooLong, NotSpelled, BadLine, SinkFault, StoreFault}
use Rattle.jam_cli.specs.declared.verb.Kind.{Kind}
use Rattle.jam_cli.specs.declared.verb.Kind.TheVariants.{Program, Standard, Bytes, State, Batch, Text}
use Rattle.jam_cli.specs.declared.verb.Verb.{Verb}
use Rattle.jam_cli.specs.declared.verb.Verb.TheVariants as the
use Rattle.jam_cli.specs.declared.words.Command as parsed
use Rattle.jam_cli.specs.declared.words.Command.TheVariants as of
use Rattle.jam_cli.specs.declared.words.Line as parsed_line
use Rattle.jam_cli.specs.declared.argument.Misfit.{Misfit}
use Rattle.jam_cli.specs.declared.argument.Misfit.TheVariants as misfit
use Rattle.jam_cli.specs.declared.reads.Input as code_input
use Rattle.jam_cli.specs.declared.reads.File as code_file
use Rattle.jam_cli.specs.declared.kept.Kept as kept_file
use Rattle.jam_cli.specs.declared.kept.Kept.TheVariants as kept
use Rattle.jam_cli.specs.declared.work.Work as code_work
use Rattle.jam_cli.specs.declared.work.Entry as code_entry
use Rattle.jam_cli.specs.Table.{row, Arguments, Command, command, Asks, AsksNothing, Input, inputs, stored_name, NamesNone}
use Rattle.jam_cli.specs.Command.{File, held, kinds, Values, SpellAll, IsRefusedAt, Product, Work, made, bad_line, work}
use Rattle.jam_cli.specs.Ending.{Call, limit, AllRead, FirstTooLong, FirstRefused, FirstNamed, IsInputWord, Produces, IsReadFault, IsTooLong, IsRefused, IsBadLine}

-- ---- The words

-- what a command of the code stands for
abbrev pub asked : parsed.Command → Command
asked (of.Run blob gas) = command the.Run (blob.now, (gas.value, tt))
asked (of.Trace standard entry gas args last) = command the.Trace (standard.now, (entry, (gas.value, (args.bytes.items, (last.value, tt)))))
asked (of.Show state) = command the.Show (state.now, tt)
asked (of.Hash file) = command the.Hash (file.now, tt)
asked (of.Asm text out) = command the.Asm (text.now, (out.now, tt))
asked (of.Disasm blob) = command the.Disasm (blob.now, tt)
asked (of.Accumulate state batch posterior slice) = command the.Accumulate (state.now, (batch.now, (posterior.now, (slice, tt))))

-- the inputs that the code holds
abbrev pub plain_input : code_input.Input → Input
plain_input i = record { word = i.word; name = i.name.now; kind = i.kind }

abbrev pub plain_inputs : List code_input.Input → List Input
plain_inputs is = map plain_input is

-- the files that a command of the code reads, and the name that it stores under, are the table's
abbrev pub IsLine : parsed_line.Line → Type 0
IsLine l = (plain_inputs l.inputs.items ≡ inputs (asked l.command)) × (option_map (λ name. name.now) l.stored ≡ stored_name (asked l.command))

-- what the words after a verb are parsed as
abbrev pub Parses : Verb → List (List ℕ) → Result parsed_line.Line Misfit → Type 0
Parses verb words (Ok l) = Asks (asked l.command) ((row verb).name ∷ words) × IsLine l
Parses verb words (Err misfit.OtherWords) = (arguments : Arguments (row verb).parts) → Asks (command verb arguments) ((row verb).name ∷ words) → ⊥
Parses verb words (Err misfit.NoMemory) = Unit {0}

-- ---- The files

-- a file that is kept as a whole
abbrev pub KeepsWhole : kept_file.Kept → List ℕ → Type 0
KeepsWhole (kept.Whole v) bytes = v.items ≡ bytes
KeepsWhole (kept.Digest d) bytes = ⊥

-- one of which the digest is kept
abbrev pub KeepsDigest : kept_file.Kept → List ℕ → Type 0
KeepsDigest (kept.Whole v) bytes = ⊥
KeepsDigest (kept.Digest d) bytes = d ≡ digest bytes

-- a file of a kind is kept so
abbrev pub IsKeptFile : Kind → kept_file.Kept → List ℕ → Type 0
IsKeptFile Bytes k bytes = KeepsDigest k bytes
IsKeptFile Program k bytes = KeepsWhole k bytes
IsKeptFile Standard k bytes = KeepsWhole k bytes
IsKeptFile State k bytes = KeepsWhole k bytes
IsKeptFile Batch k bytes = KeepsWhole k bytes
IsKeptFile Text k bytes = KeepsWhole k bytes

-- the code holds this file
pub record IsFile (f : code_file.File) (g : File) : Type 0 where
  pub input : g.input ≡ plain_input f.input
  pub kept : IsKeptFile f.input.kind f.kept g.bytes

-- it holds these, one after another
abbrev pub AreFiles : List code_file.File → List File → Type 0
AreFiles [] [] = Unit {0}
AreFiles [] (g ∷ gs) = ⊥
AreFiles (f ∷ fs) [] = ⊥
AreFiles (f ∷ fs) (g ∷ gs) = IsFile f g × AreFiles fs gs

-- it holds some
abbrev pub AreKeptFiles : List code_file.File → Type 0
AreKeptFiles fs = (gs : List File) × AreFiles fs gs

-- so of those that it holds
abbrev pub OfFiles : List code_file.File → (List File → Type 0) → Type 0
OfFiles fs P = (gs : List File) → AreFiles fs gs → P gs

abbrev pub inputs_in : List code_file.File → List Input
inputs_in fs = map (λ (f : code_file.File). plain_input f.input) fs

abbrev pub inputs_of : List File → List Input
inputs_of fs = map (λ (f : File). f.input) fs

-- the bytes of the first of files, and the files after it
abbrev pub first_bytes : List File → List ℕ
first_bytes [] = []
first_bytes (f ∷ fs) = f.bytes

abbrev pub later_files : List File → List File
later_files [] = []
later_files (f ∷ fs) = fs

-- where the files are told, these are those of inputs, and hold no more than is read
abbrev pub AreHeld : Option Files → List Input → List File → Type 0
AreHeld told is fs = IfSome told (λ files. AllRead (held files is) × (fs ≡ held files is))

-- the code holds the files of inputs
pub record AreReadFiles (told : Option Files) (is : List Input) (all : List code_file.File) : Type 0 where
  pub files : List File
  pub are : AreFiles all files
  pub inputs : inputs_of files ≡ is
  pub read : AreHeld told is files

-- some of the files were not read
abbrev pub NotRead : Refusal → List Input → VaultState → VaultState → Type 0
NotRead NoMemory is v w = w ≡ v
NotRead (ReadFault word) is v w = (w ≡ read_failed v w.failed w.failed_place) × FirstNamed w.failed is word × (w.failed_place ≤ limit)
NotRead (TooLong word) is v w = (w ≡ v) × IsInputWord is word × IfSome v.files (λ files. FirstTooLong (held files is) word)
NotRead refusal is v w = ⊥

-- how a read that was refused ends the reading
abbrev pub EndOf : ReadRefusal → Refusal → List Input → Input → Type 0
EndOf read.ReadFault refusal is i = (word : ℕ) × (refusal ≡ ReadFault word) × (FirstNamed i.name is word ⊎ NamesNone is i.name)
EndOf read.TooLong refusal is i = refusal ≡ TooLong i.word
EndOf read.NoMemory refusal is i = refusal ≡ NoMemory

-- bytes spell no value of a kind
abbrev pub IsNone : Kind → List ℕ → FileRefusal → Type 0
IsNone kind bytes (codec.Malformed place) = IsRefusedAt kind bytes place
IsNone kind bytes codec.NoMemory = Unit {0}

-- how a word's file is refused then
abbrev pub refused_as : ℕ → FileRefusal → Refusal
refused_as word (codec.Malformed place) = NotSpelled word place
refused_as word codec.NoMemory = NoMemory

-- some of the files spell no value
abbrev pub NotAllSpelled : Refusal → List File → Type 0
NotAllSpelled NoMemory fs = Unit {0}
NotAllSpelled (NotSpelled word place) fs = FirstRefused fs word place
NotAllSpelled refusal fs = ⊥

-- ---- The work

abbrev pub plain_entry : Option code_entry.Entry → Option (List ℕ × List ℕ)
plain_entry = option_map (λ (e : code_entry.Entry). (e.name.now, e.bytes.items))

abbrev pub plain_product : code_work.Work → Product
plain_product w = record { printed = w.text.items; entry = plain_entry w.entry }

abbrev pub plain_work : code_work.Work → Work
plain_work w = made (plain_product w)

-- it is the command's work on what these files spell
abbrev pub IsWork : Command → List File → Work → Type 0
IsWork c fs w = (values : Values (kinds (inputs c))) × SpellAll (kinds (inputs c)) values fs × (w ≡ work c values)

-- a work comes to this: what it makes, or the line that it refuses
abbrev pub ComesTo : Work → Result code_work.Work Refusal → Type 0
ComesTo w (Ok x) = plain_work x ≡ w
ComesTo w (Err (BadLine line kind)) = w ≡ bad_line line kind
ComesTo w (Err NoMemory) = Unit {0}
ComesTo w (Err refusal) = ⊥

-- it was not done
abbrev pub NotWorked : Refusal → Command → List File → Type 0
NotWorked (BadLine line kind) c fs = IsWork c fs (bad_line line kind)
NotWorked refusal c fs = NotAllSpelled refusal fs

-- what the code made of files that it holds
abbrev pub WorkedOn : Command → List code_file.File → Result code_work.Work Refusal → Type 0
WorkedOn c fs (Ok w) = OfFiles fs (λ gs. IsWork c gs (plain_work w))
WorkedOn c fs (Err refusal) = OfFiles fs (NotWorked refusal c)

-- ---- What is handed out

-- the text was not printed
abbrev pub NotPrinted : Refusal → SinkState → SinkState → List ℕ → Type 0
NotPrinted NoMemory s t text = AppendsPrefix s.taken t.taken text × (t.faults ≡ s.faults)
NotPrinted SinkFault s t text = AppendsPrefix s.taken t.taken text × Raised s.faults t.faults
NotPrinted refusal s t text = ⊥

-- a vault with an entry stored in it, if there is one
abbrev pub entry_stored : Option (List ℕ × List ℕ) → VaultState → VaultState
entry_stored None v = v
entry_stored (Some e) v = store_done v e.0 e.1

abbrev pub name_in : Option (List ℕ × List ℕ) → Option (List ℕ)
name_in = option_map (λ (e : List ℕ × List ℕ). e.0)

-- the entry was not stored
abbrev pub NotStored : Refusal → VaultState → VaultState → Option (List ℕ × List ℕ) → Type 0
NotStored NoMemory v w entry = w ≡ store_made v
NotStored StoreFault v w entry = (name : List ℕ) × (name_in entry ≡ Some name) × (w ≡ store_failed v name)
NotStored refusal v w entry = ⊥

-- ---- The call

-- what a command gives of the files of a vault
pub record Makes (c : Command) (v : VaultState) (w : Product) : Type 0 where
  pub named : name_in w.entry ≡ stored_name c
  pub gives : IfSome v.files (λ files. Produces files c w)

-- the outside is as it was
abbrev pub Untouched : Call → Type 0
Untouched k = (k.vault_after ≡ k.vault) × (k.sink_after ≡ k.sink)

-- all was printed, and the sink did not fail
abbrev pub PrintsAll : Call → Product → Type 0
PrintsAll k w = Appends k.sink.taken k.sink_after.taken w.printed × (k.sink_after.faults ≡ k.sink.faults)

-- a prefix was
abbrev pub PrintsPrefix : Call → Product → Type 0
PrintsPrefix k w = AppendsPrefix k.sink.taken k.sink_after.taken w.printed × (k.sink_after.faults ≡ k.sink.faults)

-- how a call of a command ends
abbrev pub Ends : Result (Unit {0}) Refusal → Command → Call → Type 0
Ends (Ok x) c k = (w : Product) × Makes c k.vault w × PrintsAll k w × (k.vault_after ≡ entry_stored w.entry k.vault)
Ends (Err NoMemory) c k = Untouched k ⊎ ((w : Product) × Makes c k.vault w × PrintsPrefix k w × ((k.vault_after ≡ k.vault) ⊎ (k.vault_after ≡ store_made k.vault)))
Ends (Err BadWords) c k = ⊥
Ends (Err (ReadFault word)) c k = IsReadFault c k word × (k.vault_after ≡ read_failed k.vault k.vault_after.failed k.vault_after.failed_place) × (k.sink_after ≡ k.sink)
Ends (Err (TooLong word)) c k = IsTooLong c k word × Untouched k
Ends (Err (NotSpelled word place)) c k = IsRefused c k word place × Untouched k
Ends (Err (BadLine line kind)) c k = IsBadLine c k line kind × Untouched k
Ends (Err SinkFault) c k = (w : Product) × Makes c k.vault w × AppendsPrefix k.sink.taken k.sink_after.taken w.printed × Raised k.sink.faults k.sink_after.faults × (k.vault_after ≡ k.vault)
Ends (Err StoreFault) c k = (w : Product) × Makes c k.vault w × PrintsAll k w × ((name : List ℕ) × (name_in w.entry ≡ Some name) × (k.vault_after ≡ store_failed k.vault name))

-- how a call with these words ends
abbrev pub CallEnds : Result (Unit {0}) Refusal → List (List ℕ) → Call → Type 0
CallEnds (Err BadWords) words k = AsksNothing words × Untouched k
CallEnds (Err NoMemory) words k = Untouched k ⊎ ((c : Command) × Asks c words × Ends (Err NoMemory) c k)
CallEnds result words k = (c : Command) × Asks c words × Ends result c k

-- its status
abbrev pub status_of : Result (Unit {0}) Refusal → Status
status_of (Ok x) = status.Done
status_of (Err NoMemory) = status.NoMemory
status_of (Err BadWords) = status.BadWords
status_of (Err (ReadFault word)) = status.ReadFault word
status_of (Err (TooLong word)) = status.TooLong word
status_of (Err (NotSpelled word place)) = status.Refused word place
status_of (Err (BadLine line kind)) = status.BadLine line kind
status_of (Err SinkFault) = status.SinkFault
status_of (Err StoreFault) = status.StoreFault
