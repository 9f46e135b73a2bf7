-- How a call may end, and why. Each cause is stated over the files that a command reads, in the order of their words.
use Rattle.std.specs.Prelude.{◌≡◌, ◌≢◌, ◌⊎◌, ℕ, ◌<◌, ◌≤◌, List, [], ◌∷◌, Bool, true, false, length, Option, Some, None, IfSome, is_some}
use Rattle.std.specs.FinMap as fin
use Rattle.jam_outside.specs.Files.{Files, content}
use Rattle.jam_outside.specs.Causes.{VaultState, SinkState, Raised, counted_where, Appends, AppendsPrefix}
use Rattle.pvm_asm.specs.declared.kind.AsmKind.{AsmKind}
use Rattle.jam_cli.specs.declared.status.Status.{Status}
use Rattle.jam_cli.specs.declared.status.Status.TheVariants.{Done, NoMemory, BadWords, ReadFault, TooLong, Refused, BadLine, SinkFault, StoreFault}
use Rattle.jam_cli.specs.Table.{Input, Command, inputs, stored_name, Asks, AsksNothing}
use Rattle.jam_cli.specs.Command.{File, held, kinds, Values, SpellAll, IsSpelled, IsRefusedAt, Product, Work, made, bad_line, work}

-- what is known of the outside at a call's begin and at its end
pub record Call : Type 0 where
  pub vault : VaultState
  pub vault_after : VaultState
  pub sink : SinkState
  pub sink_after : SinkState

abbrev pub call : VaultState → VaultState → SinkState → SinkState → Call
call vault vault_after sink sink_after = record { vault = vault; vault_after = vault_after; sink = sink; sink_after = sink_after }

-- ---- The files of a command

-- how many bytes of a file are read at the most
abbrev pub limit : ℕ
limit = 67108864

-- a file was read: it holds no more than is read
abbrev pub WasRead : File → Type 0
WasRead f = length f.bytes ≤ limit

abbrev pub AllRead : List File → Type 0
AllRead [] = Unit {0}
AllRead (f ∷ fs) = WasRead f × AllRead fs

-- the word of the first file that holds too much
abbrev pub FirstTooLong : List File → ℕ → Type 0
FirstTooLong [] word = ⊥
FirstTooLong (f ∷ fs) word = ((f.input.word ≡ word) × (limit < length f.bytes)) ⊎ (WasRead f × FirstTooLong fs word)

-- the word of the first file that spells no value of its kind, and the place where it is refused
abbrev pub FirstRefused : List File → ℕ → ℕ → Type 0
FirstRefused [] word place = ⊥
FirstRefused (f ∷ fs) word place =
    ((f.input.word ≡ word) × IsRefusedAt f.input.kind f.bytes place) ⊎ (IsSpelled f.input.kind f.bytes × FirstRefused fs word place)

-- the word of the first input with this name
abbrev pub FirstNamed : List ℕ → List Input → ℕ → Type 0
FirstNamed name [] word = ⊥
FirstNamed name (i ∷ is) word = ((i.name ≡ name) × (i.word ≡ word)) ⊎ ((i.name ≢ name) × FirstNamed name is word)

-- the word names an input
abbrev pub IsInputWord : List Input → ℕ → Type 0
IsInputWord [] word = ⊥
IsInputWord (i ∷ is) word = (i.word ≡ word) ⊎ IsInputWord is word

-- the files of a command were read, and spell these values
abbrev pub FilesSpell : Files → (c : Command) → Values (kinds (inputs c)) → Type 0
FilesSpell files c values = AllRead (held files (inputs c)) × SpellAll (kinds (inputs c)) values (held files (inputs c))

-- the command's work on the files is this
abbrev pub Works : Files → Command → Work → Type 0
Works files c w = (values : Values (kinds (inputs c))) × FilesSpell files c values × (work c values ≡ w)

abbrev pub Produces : Files → Command → Product → Type 0
Produces files c p = Works files c (made p)

-- ---- What was printed and stored

abbrev pub PrintedNothing : Call → Type 0
PrintedNothing k = k.sink_after.taken ≡ k.sink.taken

-- all that the command's work gives of its files was printed
abbrev pub PrintedAll : Call → Files → Command → Type 0
PrintedAll k files c = (p : Product) × Produces files c p × Appends k.sink.taken k.sink_after.taken p.printed

-- a prefix of it was
abbrev pub PrintedPrefix : Call → Files → Command → Type 0
PrintedPrefix k files c = (p : Product) × Produces files c p × AppendsPrefix k.sink.taken k.sink_after.taken p.printed

-- the files after a store, if there is one
abbrev pub with_entry : Option (List ℕ × List ℕ) → Files → Files
with_entry None files = files
with_entry (Some entry) files = fin.insert files entry.0 entry.1

-- the files hold what they did, but for what the command's work stores
abbrev pub StoredAll : Call → Files → Command → Type 0
StoredAll k files c = (p : Product) × Produces files c p × (k.vault_after.files ≡ Some (with_entry p.entry files))

-- the files hold what they did
abbrev pub KeepsFiles : Call → Type 0
KeepsFiles k = k.vault_after.files ≡ k.vault.files

-- ---- The causes

-- a read failed in this call, and the word is the first whose name is the one at which it did
pub record IsReadFault (c : Command) (k : Call) (word : ℕ) : Type 0 where
  pub raised : Raised k.vault.read_faults k.vault_after.read_faults
  pub first : FirstNamed k.vault_after.failed (inputs c) word
  pub place : k.vault_after.failed_place ≤ limit

-- the files before this word's were read, and this one holds more than is read
pub record IsTooLong (c : Command) (k : Call) (word : ℕ) : Type 0 where
  pub input : IsInputWord (inputs c) word
  pub first : IfSome k.vault.files (λ files. FirstTooLong (held files (inputs c)) word)

-- all files were read, those before this word's spell, and this one is refused at the place
pub record IsRefused (c : Command) (k : Call) (word place : ℕ) : Type 0 where
  pub input : IsInputWord (inputs c) word
  pub first : IfSome k.vault.files (λ files. AllRead (held files (inputs c)) × FirstRefused (held files (inputs c)) word place)

-- the work on values of its kinds, and on those of its files where they are told, is to refuse this line
pub record IsBadLine (c : Command) (k : Call) (line : ℕ) (kind : AsmKind) : Type 0 where
  pub work : (values : Values (kinds (inputs c))) × (work c values ≡ bad_line line kind)
  pub files : IfSome k.vault.files (λ files. Works files c (bad_line line kind))

-- the sink failed in this call; a prefix was printed
pub record IsSinkFault (c : Command) (k : Call) : Type 0 where
  pub raised : Raised k.sink.faults k.sink_after.faults
  pub printed : IfSome k.vault.files (λ files. PrintedPrefix k files c)

-- the store failed in this call, under the name that is stored; all was printed
pub record IsStoreFault (c : Command) (k : Call) : Type 0 where
  pub raised : Raised k.vault.store_faults k.vault_after.store_faults
  pub name : stored_name c ≡ Some k.vault_after.store_failed
  pub printed : IfSome k.vault.files (λ files. PrintedAll k files c)

-- ---- What each status says, and where it comes

-- Done: all was printed and stored, and nothing else
abbrev pub DoneMeans : Status → List (List ℕ) → Call → Type 0
DoneMeans status words k = status ≡ Done → (c : Command) × Asks c words × IfSome k.vault.files (λ files. PrintedAll k files c × StoredAll k files c)

-- BadWords: exactly where no row of the table has the words
abbrev pub BadWordsMeans : Status → List (List ℕ) → Type 0
BadWordsMeans status words = status ≡ BadWords → AsksNothing words

abbrev pub BadWordsComes : Status → List (List ℕ) → Type 0
BadWordsComes status words = AsksNothing words → (status ≡ BadWords) ⊎ (status ≡ NoMemory)

-- ReadFault: only by its cause
abbrev pub ReadFaultMeans : Status → List (List ℕ) → Call → Type 0
ReadFaultMeans status words k = (word : ℕ) → status ≡ ReadFault word → (c : Command) × Asks c words × IsReadFault c k word

-- neither a failed read nor want of memory ended the call
abbrev pub ReadThrough : Status → Type 0
ReadThrough NoMemory = ⊥
ReadThrough (ReadFault word) = ⊥
ReadThrough status = Unit {0}

-- TooLong: exactly by its cause
abbrev pub TooLongMeans : Status → List (List ℕ) → Call → Type 0
TooLongMeans status words k = (word : ℕ) → status ≡ TooLong word → (c : Command) × Asks c words × IsTooLong c k word

abbrev pub TooLongComes : Status → List (List ℕ) → Call → Type 0
TooLongComes status words k = ReadThrough status
    → IfSome k.vault.files (λ files. (c : Command) (word : ℕ) → Asks c words → FirstTooLong (held files (inputs c)) word → status ≡ TooLong word)

-- Refused: exactly by its cause
abbrev pub RefusedMeans : Status → List (List ℕ) → Call → Type 0
RefusedMeans status words k = (word place : ℕ) → status ≡ Refused word place → (c : Command) × Asks c words × IsRefused c k word place

abbrev pub RefusedComes : Status → List (List ℕ) → Call → Type 0
RefusedComes status words k = ReadThrough status
    → IfSome k.vault.files (λ files. (c : Command) (word place : ℕ) → Asks c words → AllRead (held files (inputs c)) → FirstRefused (held files (inputs c)) word place → status ≡ Refused word place)

-- BadLine: exactly by its cause
abbrev pub BadLineMeans : Status → List (List ℕ) → Call → Type 0
BadLineMeans status words k = (line : ℕ) (kind : AsmKind) → status ≡ BadLine line kind → (c : Command) × Asks c words × IsBadLine c k line kind

abbrev pub BadLineComes : Status → List (List ℕ) → Call → Type 0
BadLineComes status words k = ReadThrough status
    → IfSome k.vault.files (λ files. (c : Command) (line : ℕ) (kind : AsmKind) → Asks c words → Works files c (bad_line line kind) → status ≡ BadLine line kind)

-- SinkFault, StoreFault: only by their causes
abbrev pub SinkFaultMeans : Status → List (List ℕ) → Call → Type 0
SinkFaultMeans status words k = status ≡ SinkFault → (c : Command) × Asks c words × IsSinkFault c k

abbrev pub StoreFaultMeans : Status → List (List ℕ) → Call → Type 0
StoreFaultMeans status words k = status ≡ StoreFault → (c : Command) × Asks c words × IsStoreFault c k

-- NoMemory: a prefix was printed where the command has a text for the files, else nothing
abbrev pub NoMemoryMeans : Status → List (List ℕ) → Call → Type 0
NoMemoryMeans status words k = status ≡ NoMemory
    → PrintedNothing k ⊎ ((c : Command) × Asks c words × IfSome k.vault.files (λ files. PrintedPrefix k files c))

-- at these endings nothing was printed
abbrev pub IsSilent : Status → Type 0
IsSilent BadWords = Unit {0}
IsSilent (ReadFault word) = Unit {0}
IsSilent (TooLong word) = Unit {0}
IsSilent (Refused word place) = Unit {0}
IsSilent (BadLine line kind) = Unit {0}
IsSilent status = ⊥

abbrev pub SilentMeans : Status → Call → Type 0
SilentMeans status k = IsSilent status → PrintedNothing k

-- every ending but Done leaves the files
abbrev pub OthersKeepFiles : Status → Call → Type 0
OthersKeepFiles status k = status ≢ Done → KeepsFiles k

-- what a command reads holds what it did
abbrev pub AllKept : Files → Files → List Input → Type 0
AllKept before after [] = Unit {0}
AllKept before after (i ∷ is) = (content after i.name ≡ content before i.name) × AllKept before after is

-- however the call ends
abbrev pub InputsKept : List (List ℕ) → Call → Type 0
InputsKept words k = IfSome k.vault.files (λ before. (c : Command) → Asks c words → (after : Files) × (k.vault_after.files ≡ Some after) × AllKept before after (inputs c))

-- ---- The counts

abbrev pub is_read_fault : Status → Bool
is_read_fault (ReadFault word) = true
is_read_fault status = false

abbrev pub is_sink_fault : Status → Bool
is_sink_fault SinkFault = true
is_sink_fault status = false

abbrev pub is_store_fault : Status → Bool
is_store_fault StoreFault = true
is_store_fault status = false

-- a count of failures is raised by one exactly at the status that names it
pub record CountsFaults (status : Status) (k : Call) : Type 0 where
  pub reads : k.vault_after.read_faults ≡ counted_where (is_read_fault status) k.vault.read_faults
  pub puts : k.sink_after.faults ≡ counted_where (is_sink_fault status) k.sink.faults
  pub stores : k.vault_after.store_faults ≡ counted_where (is_store_fault status) k.vault.store_faults

-- what is kept of the last failure of a kind changes only at the status that names it
pub record KeepsNames (status : Status) (k : Call) : Type 0 where
  pub read : is_read_fault status ≡ false → k.vault_after.failed ≡ k.vault.failed
  pub place : is_read_fault status ≡ false → k.vault_after.failed_place ≡ k.vault.failed_place
  pub store : is_store_fault status ≡ false → k.vault_after.store_failed ≡ k.vault.store_failed

-- how many stores were made: one where the command stores and all was printed, else none; where memory ran out, at most one
abbrev pub CountsStores : Status → List (List ℕ) → Call → Type 0
CountsStores Done words k = (c : Command) × Asks c words × (k.vault_after.stores ≡ counted_where (is_some (stored_name c)) k.vault.stores)
CountsStores StoreFault words k = Raised k.vault.stores k.vault_after.stores
CountsStores NoMemory words k = (k.vault_after.stores ≡ k.vault.stores) ⊎ Raised k.vault.stores k.vault_after.stores
CountsStores status words k = k.vault_after.stores ≡ k.vault.stores

-- ---- Completeness

-- the files of a command are told, were not too long and spell values of its kinds, of which no line is refused, and no
-- count of failures was raised
pub record IsServed (words : List (List ℕ)) (k : Call) : Type 0 where
  pub files : Files
  pub told : k.vault.files ≡ Some files
  pub command : Command
  pub asks : Asks command words
  pub values : Values (kinds (inputs command))
  pub gives : FilesSpell files command values
  pub product : Product
  pub makes : work command values ≡ made product
  pub reads : Raised k.vault.read_faults k.vault_after.read_faults → ⊥
  pub puts : Raised k.sink.faults k.sink_after.faults → ⊥
  pub stores : Raised k.vault.store_faults k.vault_after.store_faults → ⊥

-- then the call is done, unless memory runs out
abbrev pub ServedIsDone : Status → List (List ℕ) → Call → Type 0
ServedIsDone status words k = IsServed words k → (status ≡ Done) ⊎ (status ≡ NoMemory)
