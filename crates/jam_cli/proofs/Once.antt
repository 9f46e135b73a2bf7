-- What holds once of a call: its command, its values, a place, and names apart.
use Rattle.std.proofs.Common.{◌≡◌, ◌≢◌, ℕ, ◌<◌, ◌^◌, Bool, true, false, List, [], ◌∷◌, Option, Some, Result, Ok, Err, refl, sym, ap, ◌∙◌, subst, arith, zero, suc}
use Rattle.std.specs.Prelude.{◌&&◌, Contains, IfSome, option_map}
use Rattle.std.proofs.Math.Dec.{ltb}
use Rattle.std.proofs.lemmas.Bool.{ltb-true}
use Rattle.std.proofs.lemmas.Fmt.{decimal_injective}
use Rattle.jam_codec.specs.Laws.{HasOneSpelling}
use Rattle.blob_decode.specs.Program.{program_blob}
use Rattle.program_init.specs.Standard.{standard_program}
use Rattle.state_file.specs.StateFile.{state_format}
use Rattle.batch_file.specs.BatchFile.{batch_format}
use Rattle.jam_cli.specs.declared.verb.Kind.{Kind}
use Rattle.jam_cli.specs.declared.verb.Kind.TheVariants.{Program, Standard, Bytes, State, Batch, Text}
use Rattle.jam_cli.specs.declared.verb.Verb.{Verb}
use Rattle.jam_cli.specs.declared.verb.Verb.TheVariants.{Run, Asm}
use Rattle.jam_cli.specs.Table.{Part, reads, stores, number, hexadecimal, row, Argument, Arguments, IsWord, AreWords, Fits, FitAll, Input, command, Asks, inputs, stored_name, NamesNone}
use Rattle.jam_cli.specs.Command.{format_of, Values, kinds, Work, made, bad_line, work_of, assembled}
use Rattle.pvm_asm.specs.Assembly.{assembly}
use Rattle.pvm_asm.specs.declared.kind.AsmKind.{AsmKind}
use Rattle.jam_cli.specs.Laws.{AskOnce, StoreApart, SpellOnce, RefuseOnce, EntryNamed}
use Rattle.jam_cli.proofs.Hexadecimals.{same_bytes}
use Rattle.jam_cli.proofs.Verbs.{name-injective}

-- decimal digits are known to tell numbers below 2 ^ 64 apart
is_small : Part → Bool
is_small (reads kind) = true
is_small stores = true
is_small (number least bound) = ltb bound (2 ^ 64)
is_small (hexadecimal least most) = true

are_small : List Part → Bool
are_small [] = true
are_small (part ∷ parts) = is_small part && are_small parts

-- no bound of the table is above that: the checker computes it for each row
small : (verb : Verb) → are_small (row verb).parts ≡ true
unfolding are_small is_small
small Run = refl
small _ = refl

both_true : (a b : Bool) → (a && b) ≡ true → (a ≡ true) × (b ≡ true)
both_true true b e = (refl, e)
both_true false b e = absurd (cc e)

same_argument : (part : Part) → is_small part ≡ true → (a b : Argument part) → Fits part a → Fits part b → (word : List ℕ) → IsWord part a word → IsWord part b word → a ≡ b
unfolding is_small
same_argument (reads kind) ok a b fa fb word p q = sym p ∙ q
same_argument stores ok a b fa fb word p q = sym p ∙ q
same_argument (number least bound) ok a b fa fb word p q =
    let below : bound < 2 ^ 64 = ltb-true bound (2 ^ 64) ok in
    decimal_injective a b (omega (arith, below, fa.1)) (omega (arith, below, fb.1)) (sym p ∙ q)
same_argument (hexadecimal least most) ok a b fa fb word p q = same_bytes a b word p q

pair : {A B : Type 0} (a b : A × B) → a.0 ≡ b.0 → a.1 ≡ b.1 → a ≡ b
pair a b p q = subst (λ x. a ≡ (x, b.1)) p (subst (λ y. a ≡ (a.0, y)) q refl)

same_arguments : (parts : List Part) → are_small parts ≡ true → (a b : Arguments parts) → FitAll parts a → FitAll parts b → (words : List (List ℕ)) → AreWords parts a words → AreWords parts b words → a ≡ b
unfolding are_small
same_arguments [] ok a b fa fb words p q = refl
same_arguments (part ∷ parts) ok a b fa fb [] p q = absurd p
same_arguments (part ∷ parts) ok a b fa fb (word ∷ words) p q =
    let oks = both_true (is_small part) (are_small parts) ok in
    pair a b (same_argument part oks.0 a.0 b.0 fa.0 fb.0 word p.0 q.0) (same_arguments parts oks.1 a.1 b.1 fa.1 fb.1 words p.1 q.1)

same_of_verb : (verb : Verb) (word : List ℕ) (words : List (List ℕ)) (a b : Arguments (row verb).parts) → Asks (command verb a) (word ∷ words) → Asks (command verb b) (word ∷ words) → command verb a ≡ command verb b
same_of_verb verb word words a b p q = ap (command verb) (same_arguments (row verb).parts (small verb) a b p.fit q.fit words p.words_are.1 q.words_are.1)

same_of : (v w : Verb) → v ≡ w → (word : List ℕ) (words : List (List ℕ)) (a : Arguments (row v).parts) (b : Arguments (row w).parts) → Asks (command v a) (word ∷ words) → Asks (command w b) (word ∷ words) → command v a ≡ command w b
same_of v w same word words a = subst (λ (w : Verb). (b : Arguments (row w).parts) → Asks (command v a) (word ∷ words) → Asks (command w b) (word ∷ words) → command v a ≡ command w b) same (same_of_verb v word words a)

pub once : AskOnce
once c d [] p q = absurd p.words_are
once c d (word ∷ words) p q = same_of c.verb d.verb (name-injective c.verb d.verb (sym p.words_are.0 ∙ q.words_are.0)) word words c.arguments d.arguments p q

none_named : (is : List Input) (name : List ℕ) (i : Input) → NamesNone is name → Contains is i → i.name ≢ name
none_named [] name i none has = absurd (omega (arith, has.1))
none_named (j ∷ is) name i none (zero, some, at) = λ e. none.0 (sym e ∙ ap (λ (k : Input). k.name) (sym at))
none_named (j ∷ is) name i none (suc k, some, at) = none_named is name i none.1 (k, omega (arith, some), at)

pub apart : StoreApart
apart c words name i asks stored = none_named (inputs c) name i (subst (λ (o : Option (List ℕ)). IfSome o (NamesNone (inputs c))) stored asks.apart)

-- what is made has an entry with the name of the table: the checker sees it for each verb
abbrev IsNamed : Work → Option (List ℕ) → Type 0
IsNamed (made p) name = option_map (λ (e : List ℕ × List ℕ). e.0) p.entry ≡ name
IsNamed (bad_line line kind) name = Unit {0}

assembled_named : (name : List ℕ) (r : Result (List ℕ) (ℕ × AsmKind)) → IsNamed (assembled name r) (Some name)
assembled_named name (Ok bytes) = refl
assembled_named name (Err refusal) = tt

named_of : (verb : Verb) (arguments : Arguments (row verb).parts) (values : Values (kinds (inputs (command verb arguments))))
    → IsNamed (work_of verb arguments values) (stored_name (command verb arguments))
named_of Run arguments values = refl
named_of Asm arguments values = assembled_named arguments.1.0 (assembly values.0)
named_of _ arguments values = refl

pub entry_named : EntryNamed
entry_named c values p is = subst (λ (w : Work). IsNamed w (stored_name c)) is (named_of c.verb c.arguments values)

-- each kind's files have one value, and files have one list of values
pub one_of_each : HasOneSpelling program_blob → HasOneSpelling standard_program → HasOneSpelling state_format → HasOneSpelling batch_format → (kind : Kind) → HasOneSpelling (format_of kind)
one_of_each program standard state batch Program = program
one_of_each program standard state batch Standard = standard
one_of_each program standard state batch Bytes = λ x y bytes p q. sym p.1 ∙ q.1
one_of_each program standard state batch State = state
one_of_each program standard state batch Batch = batch
one_of_each program standard state batch Text = λ x y bytes p q. sym p.1 ∙ q.1

pub spell_once : ((kind : Kind) → HasOneSpelling (format_of kind)) → SpellOnce
spell_once one [] values others [] s t = refl
spell_once one [] values others (f ∷ fs) s t = absurd s
spell_once one (kind ∷ ks) values others [] s t = absurd s
spell_once one (kind ∷ ks) values others (f ∷ fs) s t =
    pair values others (one kind values.0 others.0 f.bytes s.0 t.0) (spell_once one ks values.1 others.1 fs s.1 t.1)

-- the ends of two longest runs are one
pub refuse_once : RefuseOnce
refuse_once kind bytes place other p q =
    let a = p.0.longest q.0.run q.0.left q.0.whole q.0.bytes in
    let b = q.0.longest p.0.run p.0.left p.0.whole p.0.bytes in
    omega (arith, a, b, p.0.place, q.0.place)
