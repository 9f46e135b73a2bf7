-- What each status of a call says follows from how the call ends.
use Rattle.std.proofs.Common.{◌≡◌, ◌≢◌, ◌⊎◌, ℕ, List, [], ◌∷◌, arith, ap, sym, ◌∙◌, subst, refl, inl, inr, Bool, true, false, cond, Option, Some, None, unwrap_or, Result, Ok, Err, Ordering}
use Rattle.std.specs.Prelude.{IfSome, option_map, is_some}
use Rattle.std.specs.Ordering.{nat_cmp, eq_by_cmp, is_eq}
use Rattle.std.specs.declared.cmp.Ordering.TheVariants.{Less, Equal, Greater}
use Rattle.std.specs.Cmp.Lexicographic.{slice_cmp, nat_list_cmp_total}
use Rattle.std.specs.FinMap as fin
use Rattle.std.specs.FinMap.{nat_cmp-IsAntisymmetric, slice_cmp-IsAntisymmetric}
use Rattle.jam_outside.specs.Files.{Files, content}
use Rattle.jam_outside.specs.Causes.{VaultState, SinkState, Raised, counted_where, AppendsPrefix}
use Rattle.pvm_asm.specs.declared.kind.AsmKind.{AsmKind}
use Rattle.jam_cli.specs.declared.status.Status.{Status}
use Rattle.jam_cli.specs.declared.status.Status.TheVariants as status
use Rattle.jam_cli.specs.declared.refusal.Refusal.{Refusal}
use Rattle.jam_cli.specs.declared.refusal.Refusal.TheVariants.{NoMemory, BadWords, ReadFault, TooLong, NotSpelled, BadLine, SinkFault, StoreFault}
use Rattle.jam_cli.specs.Table.{Command, Asks, Input, inputs, stored_name, NamesNone}
use Rattle.jam_cli.specs.Command.{File, held, kinds, Values, SpellAll, Product, Work, made, bad_line, work}
use Rattle.jam_cli.specs.Ending.{Call, AllRead, FirstTooLong, FirstRefused, FilesSpell, Works, Produces, PrintedNothing, PrintedAll, PrintedPrefix, KeepsFiles, StoredAll, with_entry, IsReadFault, IsTooLong, IsRefused, IsBadLine, DoneMeans, BadWordsMeans, BadWordsComes, ReadFaultMeans, TooLongMeans, TooLongComes, RefusedMeans, RefusedComes, BadLineMeans, BadLineComes, SinkFaultMeans, StoreFaultMeans, NoMemoryMeans, SilentMeans, OthersKeepFiles, AllKept, InputsKept, CountsFaults, KeepsNames, CountsStores, ServedIsDone}
use Rattle.jam_cli.specs.Laws.{SpellOnce}
use Rattle.jam_cli.specs.Parts.{Makes, Untouched, PrintsAll, Ends, CallEnds, status_of, entry_stored, name_in}
use Rattle.jam_cli.proofs.Once.{once, refuse_once}
use Rattle.jam_cli.proofs.Carried.{follows}

abbrev Words : Type 0
Words = List (List ℕ)

-- ---- What is told

pub wherever : {A : Type 0} (o : Option A) (Q : A → Type 0) → ((x : A) → o ≡ Some x → Q x) → IfSome o Q
wherever None Q f = tt
wherever (Some x) Q f = f x refl

pub at_told : {A : Type 0} (o : Option A) (x : A) (P : A → Type 0) → o ≡ Some x → IfSome o P → P x
at_told {A = A} o x P e h = let Q : Option A → Type 0 = λ v. IfSome v P in subst Q e h

-- ---- The first file of a kind

-- a file that is too long was not read
read-not_long : (fs : List File) (word : ℕ) → AllRead fs → FirstTooLong fs word → ⊥
read-not_long [] word r l = l
read-not_long (f ∷ fs) word r l = elim l [ inl here ↦ omega (arith, r.0, here.1) | inr later ↦ read-not_long fs word r.1 later.1 ]

one_too_long : (fs : List File) (v w : ℕ) → FirstTooLong fs v → FirstTooLong fs w → v ≡ w
one_too_long [] v w p q = absurd p
one_too_long (f ∷ fs) v w p q = elim p [
  | inl here ↦ elim q [ inl there ↦ sym here.0 ∙ there.0 | inr later ↦ absurd (omega (arith, here.1, later.0)) ]
  | inr after ↦ elim q [ inl there ↦ absurd (omega (arith, there.1, after.0)) | inr later ↦ one_too_long fs v w after.1 later.1 ]
]

-- the word and the place are one
one_refused : (fs : List File) (v w p q : ℕ) → FirstRefused fs v p → FirstRefused fs w q → (v ≡ w) × (p ≡ q)
one_refused [] v w p q a b = absurd a
one_refused (f ∷ fs) v w p q a b = elim a [
  | inl here ↦ elim b [ inl there ↦ (sym here.0 ∙ there.0, refuse_once f.input.kind f.bytes p q here.1 there.1) | inr later ↦ absurd (here.1.1 later.0) ]
  | inr after ↦ elim b [ inl there ↦ absurd (there.1.1 after.0) | inr later ↦ one_refused fs v w p q after.1 later.1 ]
]

-- ---- A command's files are those of every command with its words

its_own : (P : Command → Type 0) (c d : Command) (words : Words) → Asks c words → Asks d words → P c → P d
its_own P c d words p q h = subst P (once c d words p q) h

gives-not_long : (files : Files) (c d : Command) (words : Words) (word : ℕ) → Asks c words → Asks d words → (values : Values (kinds (inputs c))) → FilesSpell files c values → FirstTooLong (held files (inputs d)) word → ⊥
gives-not_long files c d words word p q values g l = read-not_long (held files (inputs d)) word (its_own (λ e. AllRead (held files (inputs e))) c d words p q g.0) l

spells-not_refused : (files : Files) (is : List Input) (values : Values (kinds is)) (word place : ℕ) → SpellAll (kinds is) values (held files is) → FirstRefused (held files is) word place → ⊥
spells-not_refused files [] values word place s r = r
spells-not_refused files (i ∷ is) values word place s r = elim r [ inl here ↦ here.1.1 (values.0, s.0) | inr later ↦ spells-not_refused files is values.1 word place s.1 later.1 ]

gives-not_refused : (files : Files) (c d : Command) (words : Words) (word place : ℕ) → Asks c words → Asks d words → (values : Values (kinds (inputs c))) → FilesSpell files c values → FirstRefused (held files (inputs d)) word place → ⊥
gives-not_refused files c d words word place p q values g r =
    spells-not_refused files (inputs c) values word place g.1 (its_own (λ e. FirstRefused (held files (inputs e)) word place) d c words q p r)

-- ---- What a command makes, as it is told

known-all : (c : Command) (k : Call) (files : Files) (w : Product) → PrintsAll k w → Produces files c w → PrintedAll k files c
known-all c k files w prints known = (w, known, prints.0)

known-prefix : (c : Command) (k : Call) (files : Files) (w : Product) → AppendsPrefix k.sink.taken k.sink_after.taken w.printed → Produces files c w → PrintedPrefix k files c
known-prefix c k files w prints known = (w, known, prints)

-- the files after a store
stored_files : (entry : Option (List ℕ × List ℕ)) (v : VaultState) (files : Files) → v.files ≡ Some files → (entry_stored entry v).files ≡ Some (with_entry entry files)
stored_files None v files told = told
stored_files (Some e) v files told = ap (option_map (λ (held : Files). fin.insert held e.0 e.1)) told

known-stored : (c : Command) (k : Call) (files : Files) (w : Product) → k.vault.files ≡ Some files → k.vault_after ≡ entry_stored w.entry k.vault → Produces files c w → StoredAll k files c
known-stored c k files w told after known =
    (w, known, ap (λ (v : VaultState). v.files) after ∙ stored_files w.entry k.vault files told)

-- ---- Each status

pub done_means : (r : Result (Unit {0}) Refusal) (words : Words) (k : Call) → CallEnds r words k → DoneMeans (status_of r) words k
done_means (Ok x) words k (c, asks, (w, makes, prints, after)) is = (
  c,
  asks,
  wherever k.vault.files _ (λ files told. let known = at_told k.vault.files files (λ files. Produces files c w) told makes.gives in
      (known-all c k files w prints known, known-stored c k files w told after known)),
)
done_means (Err NoMemory) words k e is = absurd (cc is)
done_means (Err BadWords) words k e is = absurd (cc is)
done_means (Err (ReadFault w)) words k e is = absurd (cc is)
done_means (Err (TooLong w)) words k e is = absurd (cc is)
done_means (Err (NotSpelled w place)) words k e is = absurd (cc is)
done_means (Err (BadLine line kind)) words k e is = absurd (cc is)
done_means (Err SinkFault) words k e is = absurd (cc is)
done_means (Err StoreFault) words k e is = absurd (cc is)

pub bad_words_means : (r : Result (Unit {0}) Refusal) (words : Words) (k : Call) → CallEnds r words k → BadWordsMeans (status_of r) words
bad_words_means (Err BadWords) words k e is = e.0
bad_words_means (Ok x) words k e is = absurd (cc is)
bad_words_means (Err NoMemory) words k e is = absurd (cc is)
bad_words_means (Err (ReadFault w)) words k e is = absurd (cc is)
bad_words_means (Err (TooLong w)) words k e is = absurd (cc is)
bad_words_means (Err (NotSpelled w place)) words k e is = absurd (cc is)
bad_words_means (Err (BadLine line kind)) words k e is = absurd (cc is)
bad_words_means (Err SinkFault) words k e is = absurd (cc is)
bad_words_means (Err StoreFault) words k e is = absurd (cc is)

pub bad_words_comes : (r : Result (Unit {0}) Refusal) (words : Words) (k : Call) → CallEnds r words k → BadWordsComes (status_of r) words
bad_words_comes (Err BadWords) words k e none = inl refl
bad_words_comes (Err NoMemory) words k e none = inr refl
bad_words_comes (Ok x) words k e none = absurd (none e.0 e.1)
bad_words_comes (Err (ReadFault w)) words k e none = absurd (none e.0 e.1)
bad_words_comes (Err (TooLong w)) words k e none = absurd (none e.0 e.1)
bad_words_comes (Err (NotSpelled w place)) words k e none = absurd (none e.0 e.1)
bad_words_comes (Err (BadLine line kind)) words k e none = absurd (none e.0 e.1)
bad_words_comes (Err SinkFault) words k e none = absurd (none e.0 e.1)
bad_words_comes (Err StoreFault) words k e none = absurd (none e.0 e.1)

pub read_fault_means : (r : Result (Unit {0}) Refusal) (words : Words) (k : Call) → CallEnds r words k → ReadFaultMeans (status_of r) words k
read_fault_means (Err (ReadFault w)) words k e word is =
    let same : w ≡ word = cc in
    (e.0, e.1, subst (λ v. IsReadFault e.0 k v) same e.2.0)
read_fault_means (Ok x) words k e word is = absurd (cc is)
read_fault_means (Err NoMemory) words k e word is = absurd (cc is)
read_fault_means (Err BadWords) words k e word is = absurd (cc is)
read_fault_means (Err (TooLong w)) words k e word is = absurd (cc is)
read_fault_means (Err (NotSpelled w place)) words k e word is = absurd (cc is)
read_fault_means (Err (BadLine line kind)) words k e word is = absurd (cc is)
read_fault_means (Err SinkFault) words k e word is = absurd (cc is)
read_fault_means (Err StoreFault) words k e word is = absurd (cc is)

pub too_long_means : (r : Result (Unit {0}) Refusal) (words : Words) (k : Call) → CallEnds r words k → TooLongMeans (status_of r) words k
too_long_means (Err (TooLong w)) words k e word is =
    let same : w ≡ word = cc in
    (e.0, e.1, subst (λ v. IsTooLong e.0 k v) same e.2.0)
too_long_means (Ok x) words k e word is = absurd (cc is)
too_long_means (Err NoMemory) words k e word is = absurd (cc is)
too_long_means (Err BadWords) words k e word is = absurd (cc is)
too_long_means (Err (ReadFault w)) words k e word is = absurd (cc is)
too_long_means (Err (NotSpelled w place)) words k e word is = absurd (cc is)
too_long_means (Err (BadLine line kind)) words k e word is = absurd (cc is)
too_long_means (Err SinkFault) words k e word is = absurd (cc is)
too_long_means (Err StoreFault) words k e word is = absurd (cc is)

-- a command that gave a text has no file that is too long or refused
given-not_long : (c : Command) (words : Words) (k : Call) (w : Product) (end : Status) → Asks c words → Makes c k.vault w
    → IfSome k.vault.files (λ files. (d : Command) (word : ℕ) → Asks d words → FirstTooLong (held files (inputs d)) word → end ≡ status.TooLong word)
given-not_long c words k w end asks makes =
    follows k.vault.files (λ files. Produces files c w) _ (λ files known d word other there. absurd (gives-not_long files c d words word asks other known.0 known.1 there)) makes.gives

given-not_refused : (c : Command) (words : Words) (k : Call) (w : Product) (end : Status) → Asks c words → Makes c k.vault w
    → IfSome k.vault.files (λ files. (d : Command) (word place : ℕ) → Asks d words → AllRead (held files (inputs d)) → FirstRefused (held files (inputs d)) word place → end ≡ status.Refused word place)
given-not_refused c words k w end asks makes =
    follows k.vault.files (λ files. Produces files c w) _ (λ files known d word place other read there. absurd (gives-not_refused files c d words word place asks other known.0 known.1 there)) makes.gives

pub too_long_comes : (r : Result (Unit {0}) Refusal) (words : Words) (k : Call) → CallEnds r words k → TooLongComes (status_of r) words k
too_long_comes (Err (TooLong w)) words k e through =
    follows k.vault.files (λ files. FirstTooLong (held files (inputs e.0)) w) _ (λ files long d word asks there.
    ap status.TooLong (one_too_long (held files (inputs d)) w word (its_own (λ c. FirstTooLong (held files (inputs c)) w) e.0 d words e.1 asks long) there)) e.2.0.first
too_long_comes (Ok x) words k (c, asks, ends) through = given-not_long c words k ends.0 _ asks ends.1
too_long_comes (Err BadWords) words k e through = wherever k.vault.files _ (λ files told d word asks there. absurd (e.0 d asks))
too_long_comes (Err (NotSpelled w place)) words k e through =
    follows k.vault.files (λ files. AllRead (held files (inputs e.0)) × FirstRefused (held files (inputs e.0)) w place) _ (λ files both d word asks there.
    absurd (read-not_long (held files (inputs d)) word (its_own (λ c. AllRead (held files (inputs c))) e.0 d words e.1 asks both.0) there)) e.2.0.first
too_long_comes (Err (BadLine line kind)) words k (c, asks, ends) through =
    follows k.vault.files (λ files. Works files c (bad_line line kind)) _ (λ files known d word other there. absurd (gives-not_long files c d words word asks other known.0 known.1 there)) ends.0.files
too_long_comes (Err SinkFault) words k (c, asks, ends) through = given-not_long c words k ends.0 _ asks ends.1
too_long_comes (Err StoreFault) words k (c, asks, ends) through = given-not_long c words k ends.0 _ asks ends.1
too_long_comes (Err NoMemory) words k e through = absurd through
too_long_comes (Err (ReadFault w)) words k e through = absurd through

pub refused_means : (r : Result (Unit {0}) Refusal) (words : Words) (k : Call) → CallEnds r words k → RefusedMeans (status_of r) words k
refused_means (Err (NotSpelled w p)) words k e word place is =
    let same : w ≡ word = cc in
    let places : p ≡ place = cc in
    (e.0, e.1, subst (λ v. IsRefused e.0 k v place) same (subst (λ q. IsRefused e.0 k w q) places e.2.0))
refused_means (Ok x) words k e word place is = absurd (cc is)
refused_means (Err NoMemory) words k e word place is = absurd (cc is)
refused_means (Err BadWords) words k e word place is = absurd (cc is)
refused_means (Err (ReadFault w)) words k e word place is = absurd (cc is)
refused_means (Err (TooLong w)) words k e word place is = absurd (cc is)
refused_means (Err (BadLine line kind)) words k e word place is = absurd (cc is)
refused_means (Err SinkFault) words k e word place is = absurd (cc is)
refused_means (Err StoreFault) words k e word place is = absurd (cc is)

pub refused_comes : (r : Result (Unit {0}) Refusal) (words : Words) (k : Call) → CallEnds r words k → RefusedComes (status_of r) words k
refused_comes (Err (NotSpelled w p)) words k e through =
    follows k.vault.files (λ files. AllRead (held files (inputs e.0)) × FirstRefused (held files (inputs e.0)) w p) _ (λ files both d word place asks read there.
    let same = one_refused (held files (inputs d)) w word p place (its_own (λ c. FirstRefused (held files (inputs c)) w p) e.0 d words e.1 asks both.1) there in
    ap (λ v. status.Refused v p) same.0 ∙ ap (λ q. status.Refused word q) same.1) e.2.0.first
refused_comes (Ok x) words k (c, asks, ends) through = given-not_refused c words k ends.0 _ asks ends.1
refused_comes (Err BadWords) words k e through = wherever k.vault.files _ (λ files told d word place asks read there. absurd (e.0 d asks))
refused_comes (Err (TooLong w)) words k e through =
    follows k.vault.files (λ files. FirstTooLong (held files (inputs e.0)) w) _ (λ files long d word place asks read there.
    absurd (read-not_long (held files (inputs d)) w read (its_own (λ c. FirstTooLong (held files (inputs c)) w) e.0 d words e.1 asks long))) e.2.0.first
refused_comes (Err (BadLine line kind)) words k (c, asks, ends) through =
    follows k.vault.files (λ files. Works files c (bad_line line kind)) _ (λ files known d word place other read there. absurd (gives-not_refused files c d words word place asks other known.0 known.1 there)) ends.0.files
refused_comes (Err SinkFault) words k (c, asks, ends) through = given-not_refused c words k ends.0 _ asks ends.1
refused_comes (Err StoreFault) words k (c, asks, ends) through = given-not_refused c words k ends.0 _ asks ends.1
refused_comes (Err NoMemory) words k e through = absurd through
refused_comes (Err (ReadFault w)) words k e through = absurd through

-- the work on the files is one
one_work : SpellOnce → (files : Files) (c d : Command) (words : Words) (w x : Work) → Asks c words → Asks d words → Works files c w → Works files d x → w ≡ x
one_work one files c d words w x p q a b =
    let own : Works files c x = its_own (λ e. Works files e x) d c words q p b in
    sym a.2 ∙ ap (work c) (one (kinds (inputs c)) a.0 own.0 (held files (inputs c)) a.1.1 own.1.1) ∙ own.2

no_line : SpellOnce → (files : Files) (c d : Command) (words : Words) (p : Product) (line : ℕ) (kind : AsmKind) → Asks c words → Asks d words → Produces files c p → Works files d (bad_line line kind) → ⊥
no_line one files c d words p line kind asks other here there =
    let same : made p ≡ bad_line line kind = one_work one files c d words (made p) (bad_line line kind) asks other here there in
    cc same

same_line : (l m : ℕ) (a b : AsmKind) → bad_line l a ≡ bad_line m b → status.BadLine l a ≡ status.BadLine m b
same_line l m a b e = cc e

pub bad_line_means : (r : Result (Unit {0}) Refusal) (words : Words) (k : Call) → CallEnds r words k → BadLineMeans (status_of r) words k
bad_line_means (Err (BadLine l a)) words k e line kind is =
    let lines : l ≡ line = cc is in
    let kinds : a ≡ kind = cc is in
    (e.0, e.1, subst (λ m. IsBadLine e.0 k m kind) lines (subst (λ b. IsBadLine e.0 k l b) kinds e.2.0))
bad_line_means (Ok x) words k e line kind is = absurd (cc is)
bad_line_means (Err NoMemory) words k e line kind is = absurd (cc is)
bad_line_means (Err BadWords) words k e line kind is = absurd (cc is)
bad_line_means (Err (ReadFault w)) words k e line kind is = absurd (cc is)
bad_line_means (Err (TooLong w)) words k e line kind is = absurd (cc is)
bad_line_means (Err (NotSpelled w place)) words k e line kind is = absurd (cc is)
bad_line_means (Err SinkFault) words k e line kind is = absurd (cc is)
bad_line_means (Err StoreFault) words k e line kind is = absurd (cc is)

given-no_line : SpellOnce → (c : Command) (words : Words) (k : Call) (w : Product) (end : Status) → Asks c words → Makes c k.vault w
    → IfSome k.vault.files (λ files. (d : Command) (line : ℕ) (kind : AsmKind) → Asks d words → Works files d (bad_line line kind) → end ≡ status.BadLine line kind)
given-no_line one c words k w end asks makes =
    follows k.vault.files (λ files. Produces files c w) _ (λ files known d line kind other there. absurd (no_line one files c d words w line kind asks other known there)) makes.gives

pub bad_line_comes : SpellOnce → (r : Result (Unit {0}) Refusal) (words : Words) (k : Call) → CallEnds r words k → BadLineComes (status_of r) words k
bad_line_comes one (Err (BadLine l a)) words k (c, asks, ends) through =
    follows k.vault.files (λ files. Works files c (bad_line l a)) _ (λ files known d line kind other there.
    same_line l line a kind (one_work one files c d words (bad_line l a) (bad_line line kind) asks other known there)) ends.0.files
bad_line_comes one (Ok x) words k (c, asks, ends) through = given-no_line one c words k ends.0 _ asks ends.1
bad_line_comes one (Err BadWords) words k e through = wherever k.vault.files _ (λ files told d line kind asks there. absurd (e.0 d asks))
bad_line_comes one (Err (TooLong w)) words k (c, asks, ends) through =
    follows k.vault.files (λ files. FirstTooLong (held files (inputs c)) w) _ (λ files long d line kind other there.
    absurd (gives-not_long files d c words w other asks there.0 there.1 long)) ends.0.first
bad_line_comes one (Err (NotSpelled w p)) words k (c, asks, ends) through =
    follows k.vault.files (λ files. AllRead (held files (inputs c)) × FirstRefused (held files (inputs c)) w p) _ (λ files both d line kind other there.
    absurd (gives-not_refused files d c words w p other asks there.0 there.1 both.1)) ends.0.first
bad_line_comes one (Err SinkFault) words k (c, asks, ends) through = given-no_line one c words k ends.0 _ asks ends.1
bad_line_comes one (Err StoreFault) words k (c, asks, ends) through = given-no_line one c words k ends.0 _ asks ends.1
bad_line_comes one (Err NoMemory) words k e through = absurd through
bad_line_comes one (Err (ReadFault w)) words k e through = absurd through

pub sink_fault_means : (r : Result (Unit {0}) Refusal) (words : Words) (k : Call) → CallEnds r words k → SinkFaultMeans (status_of r) words k
sink_fault_means (Err SinkFault) words k (c, asks, (w, makes, prints, raised, kept)) is =
    (c, asks, record { raised = raised; printed = follows k.vault.files (λ files. Produces files c w) _ (λ files known. known-prefix c k files w prints known) makes.gives })
sink_fault_means (Ok x) words k e is = absurd (cc is)
sink_fault_means (Err NoMemory) words k e is = absurd (cc is)
sink_fault_means (Err BadWords) words k e is = absurd (cc is)
sink_fault_means (Err (ReadFault w)) words k e is = absurd (cc is)
sink_fault_means (Err (TooLong w)) words k e is = absurd (cc is)
sink_fault_means (Err (NotSpelled w place)) words k e is = absurd (cc is)
sink_fault_means (Err (BadLine line kind)) words k e is = absurd (cc is)
sink_fault_means (Err StoreFault) words k e is = absurd (cc is)

pub store_fault_means : (r : Result (Unit {0}) Refusal) (words : Words) (k : Call) → CallEnds r words k → StoreFaultMeans (status_of r) words k
store_fault_means (Err StoreFault) words k (c, asks, (w, makes, prints, (name, named, after))) is = (
  c,
  asks,
  record {
    raised = ap (λ (v : VaultState). v.store_faults) after;
    name = sym makes.named ∙ named ∙ ap (λ (v : VaultState). Some v.store_failed) (sym after);
    printed = follows k.vault.files (λ files. Produces files c w) _ (λ files known. known-all c k files w prints known) makes.gives;
  },
)
store_fault_means (Ok x) words k e is = absurd (cc is)
store_fault_means (Err NoMemory) words k e is = absurd (cc is)
store_fault_means (Err BadWords) words k e is = absurd (cc is)
store_fault_means (Err (ReadFault w)) words k e is = absurd (cc is)
store_fault_means (Err (TooLong w)) words k e is = absurd (cc is)
store_fault_means (Err (NotSpelled w place)) words k e is = absurd (cc is)
store_fault_means (Err (BadLine line kind)) words k e is = absurd (cc is)
store_fault_means (Err SinkFault) words k e is = absurd (cc is)

-- where memory runs out before anything is printed, or after
abbrev SomePrinted : Words → Call → Type 0
SomePrinted words k = PrintedNothing k ⊎ ((c : Command) × Asks c words × IfSome k.vault.files (λ files. PrintedPrefix k files c))

quiet : (k : Call) → Untouched k → PrintedNothing k
quiet k same = ap (λ (t : SinkState). t.taken) same.1

kept : (k : Call) → Untouched k → KeepsFiles k
kept k same = ap (λ (v : VaultState). v.files) same.0

some_printed : (words : Words) (k : Call) (c : Command) → Asks c words → Ends (Err NoMemory) c k → SomePrinted words k
some_printed words k c asks (inl same) = inl (quiet k same)
some_printed words k c asks (inr (w, makes, prints, after)) = inr (c, asks, follows k.vault.files (λ files. Produces files c w) _ (λ files known. known-prefix c k files w prints.0 known) makes.gives)

pub no_memory_means : (r : Result (Unit {0}) Refusal) (words : Words) (k : Call) → CallEnds r words k → NoMemoryMeans (status_of r) words k
no_memory_means (Err NoMemory) words k (inl same) is = inl (quiet k same)
no_memory_means (Err NoMemory) words k (inr (c, asks, ends)) is = some_printed words k c asks ends
no_memory_means (Ok x) words k e is = absurd (cc is)
no_memory_means (Err BadWords) words k e is = absurd (cc is)
no_memory_means (Err (ReadFault w)) words k e is = absurd (cc is)
no_memory_means (Err (TooLong w)) words k e is = absurd (cc is)
no_memory_means (Err (NotSpelled w place)) words k e is = absurd (cc is)
no_memory_means (Err (BadLine line kind)) words k e is = absurd (cc is)
no_memory_means (Err SinkFault) words k e is = absurd (cc is)
no_memory_means (Err StoreFault) words k e is = absurd (cc is)

pub silent_means : (r : Result (Unit {0}) Refusal) (words : Words) (k : Call) → CallEnds r words k → SilentMeans (status_of r) k
silent_means (Err BadWords) words k e is = quiet k e.1
silent_means (Err (ReadFault w)) words k e is = ap (λ (t : SinkState). t.taken) e.2.2
silent_means (Err (TooLong w)) words k e is = quiet k e.2.1
silent_means (Err (NotSpelled w place)) words k e is = quiet k e.2.1
silent_means (Ok x) words k e is = absurd is
silent_means (Err NoMemory) words k e is = absurd is
silent_means (Err (BadLine line kind)) words k e is = quiet k e.2.1
silent_means (Err SinkFault) words k e is = absurd is
silent_means (Err StoreFault) words k e is = absurd is

short_kept : (k : Call) (c : Command) → Ends (Err NoMemory) c k → KeepsFiles k
short_kept k c (inl same) = kept k same
short_kept k c (inr (w, makes, prints, inl after)) = ap (λ (v : VaultState). v.files) after
short_kept k c (inr (w, makes, prints, inr after)) = ap (λ (v : VaultState). v.files) after

pub others_keep_files : (r : Result (Unit {0}) Refusal) (words : Words) (k : Call) → CallEnds r words k → OthersKeepFiles (status_of r) k
others_keep_files (Ok x) words k e other = absurd (other refl)
others_keep_files (Err NoMemory) words k (inl same) other = kept k same
others_keep_files (Err NoMemory) words k (inr (c, asks, ends)) other = short_kept k c ends
others_keep_files (Err BadWords) words k e other = kept k e.1
others_keep_files (Err (ReadFault w)) words k e other = ap (λ (v : VaultState). v.files) e.2.1
others_keep_files (Err (TooLong w)) words k e other = kept k e.2.1
others_keep_files (Err (NotSpelled w place)) words k e other = kept k e.2.1
others_keep_files (Err (BadLine line kind)) words k e other = kept k e.2.1
others_keep_files (Err SinkFault) words k (c, asks, (w, makes, prints, raised, after)) other = ap (λ (v : VaultState). v.files) after
others_keep_files (Err StoreFault) words k (c, asks, (w, makes, prints, (name, named, after))) other = ap (λ (v : VaultState). v.files) after

-- a count is not raised where nothing failed
pub served_is_done : SpellOnce → (r : Result (Unit {0}) Refusal) (words : Words) (k : Call) → CallEnds r words k → ServedIsDone (status_of r) words k
served_is_done one (Ok x) words k e served = inl refl
served_is_done one (Err NoMemory) words k e served = inr refl
served_is_done one (Err BadWords) words k e served = absurd (e.0 served.command served.asks)
served_is_done one (Err (ReadFault w)) words k e served = absurd (served.reads e.2.0.raised)
served_is_done one (Err (TooLong w)) words k e served =
    absurd (gives-not_long served.files served.command e.0 words w served.asks e.1 served.values served.gives (at_told k.vault.files served.files (λ files. FirstTooLong (held files (inputs e.0)) w) served.told e.2.0.first))
served_is_done one (Err (NotSpelled w p)) words k e served =
    absurd (gives-not_refused served.files served.command e.0 words w p served.asks e.1 served.values served.gives (at_told k.vault.files served.files (λ files. AllRead (held files (inputs e.0)) × FirstRefused (held files (inputs e.0)) w p) served.told e.2.0.first).1)
served_is_done one (Err (BadLine line kind)) words k (c, asks, ends) served =
    absurd (no_line one served.files served.command c words served.product line kind served.asks asks (served.values, served.gives, served.makes)
    (at_told k.vault.files served.files (λ files. Works files c (bad_line line kind)) served.told ends.0.files))
served_is_done one (Err SinkFault) words k (c, asks, (w, makes, prints, raised, after)) served = absurd (served.puts raised)
served_is_done one (Err StoreFault) words k (c, asks, (w, makes, prints, (name, named, after))) served = absurd (served.stores (ap (λ (v : VaultState). v.store_faults) after))

-- ---- The counts

-- of a vault and a sink that are as they were
counts_same : (k : Call) → k.vault_after ≡ k.vault → k.sink_after.faults ≡ k.sink.faults → CountsFaults status.Done k
counts_same k vault sink = record { reads = ap (λ (v : VaultState). v.read_faults) vault; puts = sink; stores = ap (λ (v : VaultState). v.store_faults) vault }

faults_of : (k : Call) → Untouched k → k.sink_after.faults ≡ k.sink.faults
faults_of k same = ap (λ (t : SinkState). t.faults) same.1

entry_counts : (entry : Option (List ℕ × List ℕ)) (v w : VaultState) → w ≡ entry_stored entry v
    → (w.read_faults ≡ v.read_faults) × (w.store_faults ≡ v.store_faults) × (w.failed ≡ v.failed) × (w.failed_place ≡ v.failed_place) × (w.store_failed ≡ v.store_failed)
    × (w.stores ≡ counted_where (is_some (name_in entry)) v.stores)
entry_counts None v w e = (ap (λ (u : VaultState). u.read_faults) e, ap (λ (u : VaultState). u.store_faults) e, ap (λ (u : VaultState). u.failed) e, ap (λ (u : VaultState). u.failed_place) e, ap (λ (u : VaultState). u.store_failed) e, ap (λ (u : VaultState). u.stores) e)
entry_counts (Some entry) v w e = (ap (λ (u : VaultState). u.read_faults) e, ap (λ (u : VaultState). u.store_faults) e, ap (λ (u : VaultState). u.failed) e, ap (λ (u : VaultState). u.failed_place) e, ap (λ (u : VaultState). u.store_failed) e, ap (λ (u : VaultState). u.stores) e)

short_counts : (k : Call) (c : Command) → Ends (Err NoMemory) c k → CountsFaults status.NoMemory k
short_counts k c (inl same) = let all = counts_same k same.0 (faults_of k same) in record { reads = all.reads; puts = all.puts; stores = all.stores }
short_counts k c (inr (w, makes, prints, inl after)) = record { reads = ap (λ (v : VaultState). v.read_faults) after; puts = prints.1; stores = ap (λ (v : VaultState). v.store_faults) after }
short_counts k c (inr (w, makes, prints, inr after)) = record { reads = ap (λ (v : VaultState). v.read_faults) after; puts = prints.1; stores = ap (λ (v : VaultState). v.store_faults) after }

pub counts_faults : (r : Result (Unit {0}) Refusal) (words : Words) (k : Call) → CallEnds r words k → CountsFaults (status_of r) k
counts_faults (Ok x) words k (c, asks, (w, makes, prints, after)) =
    let all = entry_counts w.entry k.vault k.vault_after after in
    record { reads = all.0; puts = prints.1; stores = all.1 }
counts_faults (Err NoMemory) words k (inl same) = record { reads = ap (λ (v : VaultState). v.read_faults) same.0; puts = faults_of k same; stores = ap (λ (v : VaultState). v.store_faults) same.0 }
counts_faults (Err NoMemory) words k (inr (c, asks, ends)) = short_counts k c ends
counts_faults (Err BadWords) words k e = record { reads = ap (λ (v : VaultState). v.read_faults) e.1.0; puts = faults_of k e.1; stores = ap (λ (v : VaultState). v.store_faults) e.1.0 }
counts_faults (Err (ReadFault w)) words k e = record { reads = ap (λ (v : VaultState). v.read_faults) e.2.1; puts = ap (λ (t : SinkState). t.faults) e.2.2; stores = ap (λ (v : VaultState). v.store_faults) e.2.1 }
counts_faults (Err (TooLong w)) words k e = record { reads = ap (λ (v : VaultState). v.read_faults) e.2.1.0; puts = faults_of k e.2.1; stores = ap (λ (v : VaultState). v.store_faults) e.2.1.0 }
counts_faults (Err (NotSpelled w p)) words k e = record { reads = ap (λ (v : VaultState). v.read_faults) e.2.1.0; puts = faults_of k e.2.1; stores = ap (λ (v : VaultState). v.store_faults) e.2.1.0 }
counts_faults (Err (BadLine line kind)) words k e = record { reads = ap (λ (v : VaultState). v.read_faults) e.2.1.0; puts = faults_of k e.2.1; stores = ap (λ (v : VaultState). v.store_faults) e.2.1.0 }
counts_faults (Err SinkFault) words k (c, asks, (w, makes, prints, raised, after)) = record { reads = ap (λ (v : VaultState). v.read_faults) after; puts = raised; stores = ap (λ (v : VaultState). v.store_faults) after }
counts_faults (Err StoreFault) words k (c, asks, (w, makes, prints, (name, named, after))) = record { reads = ap (λ (v : VaultState). v.read_faults) after; puts = prints.1; stores = ap (λ (v : VaultState). v.store_faults) after }

-- the names of an outside that is as it was
names_same : (end : Status) (k : Call) → k.vault_after.failed ≡ k.vault.failed → k.vault_after.failed_place ≡ k.vault.failed_place → k.vault_after.store_failed ≡ k.vault.store_failed → KeepsNames end k
names_same end k read place store = record { read = λ _. read; place = λ _. place; store = λ _. store }

vault_same : (end : Status) (k : Call) → k.vault_after ≡ k.vault → KeepsNames end k
vault_same end k e = names_same end k (ap (λ (v : VaultState). v.failed) e) (ap (λ (v : VaultState). v.failed_place) e) (ap (λ (v : VaultState). v.store_failed) e)

short_names : (k : Call) (c : Command) → Ends (Err NoMemory) c k → KeepsNames status.NoMemory k
short_names k c (inl same) = vault_same status.NoMemory k same.0
short_names k c (inr (w, makes, prints, inl after)) = vault_same status.NoMemory k after
short_names k c (inr (w, makes, prints, inr after)) = names_same status.NoMemory k (ap (λ (v : VaultState). v.failed) after) (ap (λ (v : VaultState). v.failed_place) after) (ap (λ (v : VaultState). v.store_failed) after)

pub keeps_names : (r : Result (Unit {0}) Refusal) (words : Words) (k : Call) → CallEnds r words k → KeepsNames (status_of r) k
keeps_names (Ok x) words k (c, asks, (w, makes, prints, after)) =
    let all = entry_counts w.entry k.vault k.vault_after after in
    names_same status.Done k all.2 all.3 all.4
keeps_names (Err NoMemory) words k (inl same) = vault_same status.NoMemory k same.0
keeps_names (Err NoMemory) words k (inr (c, asks, ends)) = short_names k c ends
keeps_names (Err BadWords) words k e = vault_same status.BadWords k e.1.0
keeps_names (Err (ReadFault w)) words k e = record { read = λ not. absurd (cc not); place = λ not. absurd (cc not); store = λ _. ap (λ (v : VaultState). v.store_failed) e.2.1 }
keeps_names (Err (TooLong w)) words k e = vault_same (status.TooLong w) k e.2.1.0
keeps_names (Err (NotSpelled w p)) words k e = vault_same (status.Refused w p) k e.2.1.0
keeps_names (Err (BadLine line kind)) words k e = vault_same (status.BadLine line kind) k e.2.1.0
keeps_names (Err SinkFault) words k (c, asks, (w, makes, prints, raised, after)) = vault_same status.SinkFault k after
keeps_names (Err StoreFault) words k (c, asks, (w, makes, prints, (name, named, after))) =
    record { read = λ _. ap (λ (v : VaultState). v.failed) after; place = λ _. ap (λ (v : VaultState). v.failed_place) after; store = λ not. absurd (cc not) }

abbrev stores_in : VaultState → ℕ
stores_in v = v.stores

short_stores : (k : Call) (c : Command) → Ends (Err NoMemory) c k → (k.vault_after.stores ≡ k.vault.stores) ⊎ Raised k.vault.stores k.vault_after.stores
short_stores k c (inl same) = inl (ap stores_in same.0)
short_stores k c (inr (w, makes, prints, inl after)) = inl (ap stores_in after)
short_stores k c (inr (w, makes, prints, inr after)) = inr (ap stores_in after)

pub counts_stores : (r : Result (Unit {0}) Refusal) (words : Words) (k : Call) → CallEnds r words k → CountsStores (status_of r) words k
counts_stores (Ok x) words k (c, asks, (w, makes, prints, after)) =
    let all = entry_counts w.entry k.vault k.vault_after after in
    (c, asks, subst (λ (o : Option (List ℕ)). k.vault_after.stores ≡ counted_where (is_some o) k.vault.stores) makes.named all.5)
counts_stores (Err NoMemory) words k (inl same) = inl (ap stores_in same.0)
counts_stores (Err NoMemory) words k (inr (c, asks, ends)) = short_stores k c ends
counts_stores (Err BadWords) words k e = ap stores_in e.1.0
counts_stores (Err (ReadFault w)) words k e = ap stores_in e.2.1
counts_stores (Err (TooLong w)) words k e = ap stores_in e.2.1.0
counts_stores (Err (NotSpelled w p)) words k e = ap stores_in e.2.1.0
counts_stores (Err (BadLine line kind)) words k e = ap stores_in e.2.1.0
counts_stores (Err SinkFault) words k (c, asks, (w, makes, prints, raised, after)) = ap stores_in after
counts_stores (Err StoreFault) words k (c, asks, (w, makes, prints, (name, named, after))) = ap stores_in after

-- ---- What a command reads

same_content : (before : Files) (is : List Input) → AllKept before before is
same_content before [] = tt
same_content before (i ∷ is) = (refl, same_content before is)

equal : (r : Ordering) → is_eq r ≡ true → r ≡ Equal
equal Less h = absurd (cc h)
equal Equal h = refl
equal Greater h = absurd (cc h)

-- a store under another name leaves what a name stands for
stored_apart : (files : Files) (name other bytes : List ℕ) → other ≢ name → content (fin.insert files other bytes) name ≡ content files name
stored_apart files name other bytes apart =
    ap (λ (o : Option (List ℕ)). unwrap_or o []) (get_apart (eq_by_cmp (slice_cmp nat_cmp) name other) refl)
  where
    get_apart : (b : Bool) → eq_by_cmp (slice_cmp nat_cmp) name other ≡ b → fin.get (fin.insert files other bytes) name ≡ fin.get files name
    get_apart true e = absurd (apart (sym (slice_cmp-IsAntisymmetric nat_cmp-IsAntisymmetric name other (equal (slice_cmp nat_cmp name other) e))))
    get_apart false e = fin.get-insert nat_list_cmp_total files other bytes name ∙ ap (λ b. cond b (Some bytes) (fin.get files name)) e

none_kept : (files : Files) (is : List Input) (name bytes : List ℕ) → NamesNone is name → AllKept files (fin.insert files name bytes) is
none_kept files [] name bytes none = tt
none_kept files (i ∷ is) name bytes none = (stored_apart files i.name name bytes none.0, none_kept files is name bytes none.1)

-- an entry under the stored name leaves what the command reads
entry_kept : (files : Files) (c : Command) (words : Words) → Asks c words → (entry : Option (List ℕ × List ℕ)) → name_in entry ≡ stored_name c → AllKept files (with_entry entry files) (inputs c)
entry_kept files c words asks None named = same_content files (inputs c)
entry_kept files c words asks (Some e) named =
    none_kept files (inputs c) e.0 e.1 (subst (λ (o : Option (List ℕ)). IfSome o (NamesNone (inputs c))) (sym named) asks.apart)

kept_files : (k : Call) (before : Files) → k.vault.files ≡ Some before → KeepsFiles k → (c : Command) → (after : Files) × (k.vault_after.files ≡ Some after) × AllKept before after (inputs c)
kept_files k before told kept c = (before, kept ∙ told, same_content before (inputs c))

pub inputs_kept : (r : Result (Unit {0}) Refusal) (words : Words) (k : Call) → CallEnds r words k → InputsKept words k
inputs_kept (Ok x) words k (c, asks, (w, makes, prints, after)) = wherever k.vault.files _ (λ before told d other. (
  with_entry w.entry before,
  ap (λ (v : VaultState). v.files) after ∙ stored_files w.entry k.vault before told,
  its_own (λ e. AllKept before (with_entry w.entry before) (inputs e)) c d words asks other (entry_kept before c words asks w.entry makes.named),
))
inputs_kept (Err refusal) words k e = wherever k.vault.files _ (λ before told d other. kept_files k before told (others_keep_files (Err refusal) words k e (not_done refusal)) d)
  where
    not_done : (refusal : Refusal) → status_of (Err refusal) ≢ status.Done
    not_done NoMemory is = cc is
    not_done BadWords is = cc is
    not_done (ReadFault w) is = cc is
    not_done (TooLong w) is = cc is
    not_done (NotSpelled w p) is = cc is
    not_done (BadLine line kind) is = cc is
    not_done SinkFault is = cc is
    not_done StoreFault is = cc is
