-- The inputs read so far, and the first of a list of inputs at which something holds.
use Rattle.std.proofs.Common.{◌≡◌, ◌≢◌, ◌⊎◌, inl, inr, ℕ, zero, suc, ◌+◌, ◌<◌, ◌≤◌, List, [], ◌∷◌, ◌++◌, length, take, get_or, refl, sym, ap, ◌∙◌, subst, arith, IfSome, Some, None, Option, Err}
use Rattle.std.proofs.lemmas.List.{map-append}
use Rattle.jam_outside.specs.Files.{Files, content}
use Rattle.jam_outside.specs.Causes.{VaultState, read_failed, whole_read_leaves}
use Rattle.jam_outside.specs.declared.whole.ReadRefusal.{ReadRefusal}
use Rattle.jam_outside.specs.declared.whole.ReadRefusal.TheVariants as read
use Rattle.jam_cli.specs.declared.refusal.Refusal.{Refusal}
use Rattle.jam_cli.specs.declared.reads.Input as code_input
use Rattle.jam_cli.specs.declared.reads.File as code_file
use Rattle.jam_cli.specs.declared.kept.Kept as kept_file
use Rattle.jam_cli.specs.declared.verb.Kind.TheVariants.{Program}
use Rattle.jam_cli.specs.Table.{Input, NamesNone}
use Rattle.jam_cli.specs.Command.{File, held}
use Rattle.jam_cli.specs.Ending.{limit, WasRead, AllRead, FirstTooLong, FirstNamed, IsInputWord}
use Rattle.jam_cli.specs.Parts.{plain_input, plain_inputs, inputs_in, IsKeptFile, IsFile, AreFiles, AreHeld, AreReadFiles, NotRead, EndOf}

-- what the code has where no input is
abbrev pub nothing : code_input.Input
nothing = record { word = 0; name = record { ref_ptr = (0, 0); now = [] }; kind = Program }

-- an input is the one at a place
pub record IsAt (xs : List code_input.Input) (k : ℕ) (x : code_input.Input) : Type 0 where
  pub within : k < length xs
  pub at : x ≡ get_or xs k x

at_later : (y : code_input.Input) (ys : List code_input.Input) (k : ℕ) (x : code_input.Input) → IsAt (y ∷ ys) (suc k) x → IsAt ys k x
at_later y ys k x is = record { within = omega (arith, is.within); at = is.at }

pub at_index : (xs : List code_input.Input) (k : ℕ) (d : code_input.Input) → k < length xs → IsAt xs k (get_or xs k d)
at_index [] k d within = absurd (omega (arith, within))
at_index (y ∷ ys) zero d within = record { within = within; at = refl }
at_index (y ∷ ys) (suc k) d within =
    let later : IsAt ys k (get_or ys k d) = at_index ys k d (omega (arith, within)) in
    record { within = within; at = later.at }

plain_inputs_more : (xs : List code_input.Input) (k : ℕ) (x : code_input.Input) → IsAt xs k x → plain_inputs (take (suc k) xs) ≡ plain_inputs (take k xs) ++ (plain_input x ∷ [])
plain_inputs_more [] k x is = absurd (omega (arith, is.within))
plain_inputs_more (y ∷ ys) zero x is = ap (λ (z : code_input.Input). plain_input z ∷ []) (sym is.at)
plain_inputs_more (y ∷ ys) (suc k) x is = ap (λ zs. plain_input y ∷ zs) (plain_inputs_more ys k x (at_later y ys k x is))

more : (xs : List code_input.Input) (k : ℕ) (x : code_input.Input) → IsAt xs k x → plain_inputs (take (k + 1) xs) ≡ plain_inputs (take k xs) ++ (plain_input x ∷ [])
more xs k x is = let next : k + 1 ≡ suc k = omega arith in rw next (plain_inputs_more xs k x is)

none_push : (is : List Input) (i : Input) (name : List ℕ) → NamesNone is name → name ≢ i.name → NamesNone (is ++ (i ∷ [])) name
none_push [] i name none other = (other, tt)
none_push (j ∷ is) i name none other = (none.0, none_push is i name none.1 other)

pub none_more : (xs : List code_input.Input) (k : ℕ) (x : code_input.Input) (name : List ℕ) → IsAt xs k x → NamesNone (plain_inputs (take k xs)) name → name ≢ x.name.now
    → NamesNone (plain_inputs (take (k + 1) xs)) name
none_more xs k x name is none other = subst (λ ys. NamesNone ys name) (sym (more xs k x is)) (none_push (plain_inputs (take k xs)) (plain_input x) name none other)

pub first_named : (xs : List code_input.Input) (k : ℕ) (x : code_input.Input) (name : List ℕ) → IsAt xs k x → NamesNone (plain_inputs (take k xs)) name → name ≡ x.name.now → FirstNamed name (plain_inputs xs) x.word
first_named [] k x name is none same = absurd (omega (arith, is.within))
first_named (y ∷ ys) zero x name is none same = inl (ap (λ (z : code_input.Input). z.name.now) (sym is.at) ∙ sym same, ap (λ (z : code_input.Input). z.word) (sym is.at))
first_named (y ∷ ys) (suc k) x name is none same = inr ((λ e. none.0 (sym e)), first_named ys k x name (at_later y ys k x is) none.1 same)

named_at : (xs : List code_input.Input) (k : ℕ) (x : code_input.Input) → IsAt xs k x → NamesNone (plain_inputs xs) x.name.now → ⊥
named_at [] k x is none = absurd (omega (arith, is.within))
named_at (y ∷ ys) zero x is none = none.0 (ap (λ (z : code_input.Input). z.name.now) is.at)
named_at (y ∷ ys) (suc k) x is none = named_at ys k x (at_later y ys k x is) none.1

word_at : (xs : List code_input.Input) (k : ℕ) (x : code_input.Input) → IsAt xs k x → IsInputWord (plain_inputs xs) x.word
word_at [] k x is = absurd (omega (arith, is.within))
word_at (y ∷ ys) zero x is = inl (ap (λ (z : code_input.Input). z.word) (sym is.at))
word_at (y ∷ ys) (suc k) x is = inr (word_at ys k x (at_later y ys k x is))

first_too_long : (files : Files) (xs : List code_input.Input) (k : ℕ) (x : code_input.Input) → IsAt xs k x → AllRead (held files (plain_inputs (take k xs)))
    → limit < length (content files x.name.now) → FirstTooLong (held files (plain_inputs xs)) x.word
first_too_long files [] k x is all long = absurd (omega (arith, is.within))
first_too_long files (y ∷ ys) zero x is all long =
    inl (ap (λ (z : code_input.Input). z.word) (sym is.at), rw (← ap (λ (z : code_input.Input). z.name.now) is.at) long)
first_too_long files (y ∷ ys) (suc k) x is all long = inr (all.0, first_too_long files ys k x (at_later y ys k x is) all.1 long)

read_push : (fs : List File) (f : File) → AllRead fs → WasRead f → AllRead (fs ++ (f ∷ []))
read_push [] f all one = (one, tt)
read_push (g ∷ fs) f all one = (all.0, read_push fs f all.1 one)

abbrev file_with : Input → List ℕ → File
file_with i bytes = record { input = i; bytes = bytes }

abbrev file_of : Files → Input → File
file_of files i = record { input = i; bytes = content files i.name }

held_more : (files : Files) (xs : List code_input.Input) (k : ℕ) (x : code_input.Input) → IsAt xs k x
    → held files (plain_inputs (take (k + 1) xs)) ≡ held files (plain_inputs (take k xs)) ++ (file_of files (plain_input x) ∷ [])
held_more files xs k x is = ap (held files) (more xs k x is) ∙ map-append (file_of files) (plain_inputs (take k xs)) (plain_input x ∷ [])

held_push : (told : Option Files) (xs : List code_input.Input) (k : ℕ) (x : code_input.Input) (fs : List File) (bytes : List ℕ) → IsAt xs k x
    → AreHeld told (plain_inputs (take k xs)) fs → length bytes ≤ limit → IfSome told (λ files. bytes ≡ content files x.name.now)
    → AreHeld told (plain_inputs (take (k + 1) xs)) (fs ++ (file_with (plain_input x) bytes ∷ []))
held_push None xs k x fs bytes is before fits gives = tt
held_push (Some files) xs k x fs bytes is before fits gives = (
  subst AllRead (sym (held_more files xs k x is)) (read_push (held files (plain_inputs (take k xs))) (file_of files (plain_input x)) before.0 (subst (λ (b : List ℕ). length b ≤ limit) gives fits)),
  ap (λ gs. gs ++ (file_with (plain_input x) bytes ∷ [])) before.1 ∙ ap (λ (b : List ℕ). held files (plain_inputs (take k xs)) ++ (file_with (plain_input x) b ∷ [])) gives ∙ sym (held_more files xs k x is),
)

files_push : (fs : List code_file.File) (gs : List File) (f : code_file.File) (g : File) → AreFiles fs gs → IsFile f g → AreFiles (fs ++ (f ∷ [])) (gs ++ (g ∷ []))
files_push [] [] f g are is = (is, tt)
files_push [] (h ∷ gs) f g are is = absurd are
files_push (e ∷ fs) [] f g are is = absurd are
files_push (e ∷ fs) (h ∷ gs) f g are is = (are.0, files_push fs gs f g are.1 is)

-- one file more
pub read_more : (told : Option Files) (xs : List code_input.Input) (k : ℕ) (x : code_input.Input) (all : List code_file.File) (f : code_file.File) (bytes : List ℕ) → IsAt xs k x
    → AreReadFiles told (plain_inputs (take k xs)) all → f.input ≡ x → IsKeptFile x.kind f.kept bytes → length bytes ≤ limit → IfSome told (λ files. bytes ≡ content files x.name.now)
    → AreReadFiles told (plain_inputs (take (k + 1) xs)) (all ++ (f ∷ []))
read_more told xs k x all f bytes is before same keeps fits gives = record {
  files = before.files ++ (file_with (plain_input x) bytes ∷ []);
  are = files_push all before.files f (file_with (plain_input x) bytes) before.are
      (record { input = ap plain_input (sym same); kept = subst (λ (i : code_input.Input). IsKeptFile i.kind f.kept bytes) (sym same) keeps });
  inputs = map-append (λ (g : File). g.input) before.files (file_with (plain_input x) bytes ∷ []) ∙ ap (λ is. is ++ (plain_input x ∷ [])) before.inputs ∙ sym (more xs k x is);
  read = held_push told xs k x before.files bytes is before.read fits gives;
}

pub inputs_more : (xs : List code_input.Input) (k : ℕ) (x : code_input.Input) (all : List code_file.File) (f : code_file.File) → IsAt xs k x → f.input ≡ x
    → inputs_in all ≡ plain_inputs (take k xs) → inputs_in (all ++ (f ∷ [])) ≡ plain_inputs (take (k + 1) xs)
inputs_more xs k x all f is same before =
    map-append (λ (g : code_file.File). plain_input g.input) all (f ∷ []) ∙ ap (λ is. is ++ (plain_input f.input ∷ [])) before
    ∙ ap (λ (i : code_input.Input). plain_inputs (take k xs) ++ (plain_input i ∷ [])) same ∙ sym (more xs k x is)

named_of : (xs : List code_input.Input) (k : ℕ) (x : code_input.Input) (word : ℕ) → IsAt xs k x → FirstNamed x.name.now (plain_inputs xs) word ⊎ NamesNone (plain_inputs xs) x.name.now
    → FirstNamed x.name.now (plain_inputs xs) word
named_of xs k x word is (inl first) = first
named_of xs k x word is (inr none) = absurd (named_at xs k x is none)

too_long_of : (told : Option Files) (xs : List code_input.Input) (k : ℕ) (x : code_input.Input) (all : List File) → IsAt xs k x → AreHeld told (plain_inputs (take k xs)) all
    → IfSome told (λ files. limit < length (content files x.name.now)) → IfSome told (λ files. FirstTooLong (held files (plain_inputs xs)) x.word)
too_long_of None xs k x all is before long = tt
too_long_of (Some files) xs k x all is before long = first_too_long files xs k x is before.0 long

-- how a read that was refused leaves the vault and ends the reading
pub ends : (refusal : ReadRefusal) (end : Refusal) (v w : VaultState) (xs : List code_input.Input) (k : ℕ) (x : code_input.Input) (all : List File) → IsAt xs k x
    → AreHeld v.files (plain_inputs (take k xs)) all → w ≡ whole_read_leaves {X = kept_file.Kept} (Err refusal) v x.name.now w.failed_place
    → (refusal ≡ read.ReadFault → w.failed_place ≤ limit)
    → (refusal ≡ read.TooLong → IfSome v.files (λ files. limit < length (content files x.name.now)))
    → EndOf refusal end (plain_inputs xs) (plain_input x) → NotRead end (plain_inputs xs) v w
ends read.ReadFault end v w xs k x all is before left place long (word, is_it, first) =
    let name : w.failed ≡ x.name.now = ap (λ (u : VaultState). u.failed) left in
    rw is_it (left ∙ ap (λ n. read_failed v n w.failed_place) (sym name), subst (λ n. FirstNamed n (plain_inputs xs) word) (sym name) (named_of xs k x word is first), place refl)
ends read.TooLong end v w xs k x all is before left place long is_it =
    rw is_it (left, word_at xs k x is, too_long_of v.files xs k x all is before (long refl))
ends read.NoMemory end v w xs k x all is before left place long is_it = rw is_it left
