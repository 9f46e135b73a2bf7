-- How a call of a command ends, by what its parts did.
use Rattle.std.proofs.Common.{◌≡◌, ℕ, List, [], ◌∷◌, sym, ap, ◌∙◌, subst, refl, inl, inr, Option, Some, None, Result, Ok, Err, length}
use Rattle.std.specs.Prelude.{IfSome}
use Rattle.jam_outside.specs.Causes.{VaultState, SinkState, Appends, AppendsPrefix, store_made, store_failed}
use Rattle.std.proofs.Math.Seq.{take-length}
use Rattle.jam_cli.specs.declared.refusal.Refusal.{Refusal}
use Rattle.jam_cli.specs.declared.refusal.Refusal.TheVariants.{NoMemory, BadWords, ReadFault, TooLong, NotSpelled, BadLine, SinkFault, StoreFault}
use Rattle.jam_cli.specs.declared.reads.File as code_file
use Rattle.jam_cli.specs.declared.words.Command as parsed
use Rattle.jam_cli.specs.declared.work.Work as code_work
use Rattle.jam_cli.specs.Table.{Input, Command, Asks, inputs}
use Rattle.jam_cli.specs.Command.{File, held, kinds, SpellAll, Product, Work, made, bad_line}
use Rattle.jam_cli.specs.Ending.{Call, call, AllRead, FirstRefused, IsInputWord, Works}
use Rattle.jam_cli.specs.Parts.{asked, NotRead, NotAllSpelled, NotWorked, WorkedOn, NotPrinted, NotStored, IsWork, Makes, Ends, CallEnds, inputs_of, AreHeld}
use Rattle.jam_cli.proofs.Once.{entry_named}

-- where a fact holds of what is told, so does what follows from it
pub follows : {A : Type 0} (o : Option A) (P Q : A → Type 0) → ((x : A) → P x → Q x) → IfSome o P → IfSome o Q
follows None P Q f h = tt
follows (Some x) P Q f h = f x h

-- the files were not all read
pub read_ends : (c : Command) (refusal : Refusal) (v w : VaultState) (s : SinkState) → NotRead refusal (inputs c) v w → Ends (Err refusal) c (call v w s s)
read_ends c NoMemory v w s not = inl (not, refl)
read_ends c (ReadFault word) v w s not = (record { raised = ap (λ (u : VaultState). u.read_faults) not.0; first = not.1; place = not.2 }, not.0, refl)
read_ends c (TooLong word) v w s not = (record { input = not.1; first = not.2 }, (not.0, refl))
read_ends c BadWords v w s not = absurd not
read_ends c (NotSpelled word place) v w s not = absurd not
read_ends c (BadLine line kind) v w s not = absurd not
read_ends c SinkFault v w s not = absurd not
read_ends c StoreFault v w s not = absurd not

refused_word : (fs : List File) (word place : ℕ) → FirstRefused fs word place → IsInputWord (inputs_of fs) word
refused_word [] word place first = absurd first
refused_word (f ∷ fs) word place first = elim first [ inl here ↦ inl here.0 | inr later ↦ inr (refused_word fs word place later.1) ]

-- what was read, where it is told
abbrev pub WereRead : Command → VaultState → List File → Type 0
WereRead c v fs = AreHeld v.files (inputs c) fs

-- a file that spells no value is one cause that there is no work
pub not_worked : (refusal : Refusal) (c : Command) (fs : List File) → NotAllSpelled refusal fs → NotWorked refusal c fs
not_worked (BadLine line kind) c fs not = absurd not
not_worked NoMemory c fs not = not
not_worked BadWords c fs not = not
not_worked (ReadFault word) c fs not = not
not_worked (TooLong word) c fs not = not
not_worked (NotSpelled word place) c fs not = not
not_worked SinkFault c fs not = not
not_worked StoreFault c fs not = not

works : (c : Command) (v : VaultState) (fs : List File) (w : Work) → WereRead c v fs → IsWork c fs w → IfSome v.files (λ files. Works files c w)
works c v fs w were (values, spell, is) =
    follows v.files (λ files. AllRead (held files (inputs c)) × (fs ≡ held files (inputs c))) _ (λ files both.
    (values, (both.0, subst (λ gs. SpellAll (kinds (inputs c)) values gs) both.1 spell), sym is)) were

-- one of the files spells no value, or a line of a text is refused
pub spell_ends : (c : Command) (refusal : Refusal) (v w : VaultState) (s : SinkState) (fs : List File)
    → inputs_of fs ≡ inputs c → WereRead c v fs → w ≡ v → NotWorked refusal c fs → Ends (Err refusal) c (call v w s s)
spell_ends c NoMemory v w s fs are were kept not = inl (kept, refl)
spell_ends c (NotSpelled word place) v w s fs are were kept not = (
  record {
    input = subst (λ is. IsInputWord is word) are (refused_word fs word place not);
    first = follows v.files (λ files. AllRead (held files (inputs c)) × (fs ≡ held files (inputs c))) _ (λ files both. (both.0, subst (λ gs. FirstRefused gs word place) both.1 not)) were;
  },
  (kept, refl),
)
spell_ends c (BadLine line kind) v w s fs are were kept not = (record { work = (not.0, sym not.2); files = works c v fs (bad_line line kind) were not }, (kept, refl))
spell_ends c BadWords v w s fs are were kept not = absurd not
spell_ends c (ReadFault word) v w s fs are were kept not = absurd not
spell_ends c (TooLong word) v w s fs are were kept not = absurd not
spell_ends c SinkFault v w s fs are were kept not = absurd not
spell_ends c StoreFault v w s fs are were kept not = absurd not

-- the work on the files that were read
pub makes : (c : Command) (v : VaultState) (fs : List File) (w : Product) → WereRead c v fs → IsWork c fs (made w) → Makes c v w
makes c v fs w were is = record { named = entry_named c is.0 w (sym is.2); gives = works c v fs (made w) were is }

-- it was not all printed
pub print_ends : (c : Command) (refusal : Refusal) (v u : VaultState) (s t : SinkState) (w : Product) → Makes c v w → u ≡ v
    → NotPrinted refusal s t w.printed → Ends (Err refusal) c (call v u s t)
print_ends c NoMemory v u s t w makes kept not = inr (w, makes, not, inl kept)
print_ends c SinkFault v u s t w makes kept not = (w, makes, not.0, not.1, kept)
print_ends c BadWords v u s t w makes kept not = absurd not
print_ends c (ReadFault word) v u s t w makes kept not = absurd not
print_ends c (TooLong word) v u s t w makes kept not = absurd not
print_ends c (NotSpelled word place) v u s t w makes kept not = absurd not
print_ends c (BadLine line kind) v u s t w makes kept not = absurd not
print_ends c StoreFault v u s t w makes kept not = absurd not

-- all is a prefix
pub prefix_all : (old new : Option (List ℕ)) (bytes : List ℕ) → Appends old new bytes → AppendsPrefix old new bytes
prefix_all old new bytes all = (length bytes, subst (λ b. Appends old new b) (sym (take-length bytes)) all)

-- it was not stored
pub store_ends : (c : Command) (refusal : Refusal) (v u x : VaultState) (s t : SinkState) (w : Product) → Makes c v w → u ≡ v
    → Appends s.taken t.taken w.printed → t.faults ≡ s.faults → NotStored refusal u x w.entry → Ends (Err refusal) c (call v x s t)
store_ends c NoMemory v u x s t w makes kept all same not = inr (w, makes, (prefix_all s.taken t.taken w.printed all, same), inr (not ∙ ap store_made kept))
store_ends c StoreFault v u x s t w makes kept all same not = (w, makes, (all, same), (not.0, not.1, not.2 ∙ ap (λ v. store_failed v not.0) kept))
store_ends c BadWords v u x s t w makes kept all same not = absurd not
store_ends c (ReadFault word) v u x s t w makes kept all same not = absurd not
store_ends c (TooLong word) v u x s t w makes kept all same not = absurd not
store_ends c (NotSpelled word place) v u x s t w makes kept all same not = absurd not
store_ends c (BadLine line kind) v u x s t w makes kept all same not = absurd not
store_ends c SinkFault v u x s t w makes kept all same not = absurd not

-- ---- As the code has it

pub were_read : (c : Command) (v : VaultState) (is : List Input) (fs : List File) → is ≡ inputs c → AreHeld v.files is fs → WereRead c v fs
were_read c v is fs are read = subst (λ js. AreHeld v.files js fs) are read

pub call_ends : (r : Result (Unit {0}) Refusal) (c : Command) (words : List (List ℕ)) (k : Call) → Asks c words → Ends r c k → CallEnds r words k
call_ends (Ok x) c words k asks ends = (c, asks, ends)
call_ends (Err NoMemory) c words k asks ends = inr (c, asks, ends)
call_ends (Err BadWords) c words k asks ends = absurd ends
call_ends (Err (ReadFault word)) c words k asks ends = (c, asks, ends)
call_ends (Err (TooLong word)) c words k asks ends = (c, asks, ends)
call_ends (Err (NotSpelled word place)) c words k asks ends = (c, asks, ends)
call_ends (Err (BadLine line kind)) c words k asks ends = (c, asks, ends)
call_ends (Err SinkFault) c words k asks ends = (c, asks, ends)
call_ends (Err StoreFault) c words k asks ends = (c, asks, ends)

-- the work on a command that the code holds
pub worked : (c d : parsed.Command) (fs : List code_file.File) (r : Result code_work.Work Refusal) → c ≡ d → WorkedOn (asked d) fs r → WorkedOn (asked c) fs r
worked c d fs r same on = subst (λ e. WorkedOn (asked e) fs r) (sym same) on
