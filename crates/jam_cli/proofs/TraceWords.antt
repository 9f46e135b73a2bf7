-- Which words of `trace` its arguments have, and what it means that one of them is refused.
use Rattle.std.proofs.Common.{◌≡◌, ℕ, List, [], ◌∷◌, get_or, subst, sym, refl, Result, Err}
use Rattle.std.specs.Prelude.{String, string_bytes, decimal}
use Rattle.std.specs.declared.alloc.Global.{Global}
use Rattle.jam_cli.specs.declared.verb.Verb.TheVariants as the
use Rattle.jam_cli.specs.declared.words.Line as parsed_line
use Rattle.jam_cli.specs.declared.argument.Misfit.{Misfit}
use Rattle.jam_cli.specs.declared.argument.Misfit.TheVariants.{OtherWords, NoMemory}
use Rattle.jam_cli.specs.Table.{row, Arguments, IsHexadecimal, AreWords, command, Asks, texts}
use Rattle.jam_cli.specs.Parts.{Parses}

abbrev pub Given : Type 0
Given = Arguments (row the.Trace).parts

abbrev AreGiven : Given → List (String Global) → Type 0
AreGiven arguments words = AreWords (row the.Trace).parts arguments (texts words)

pub entry_word : (words : List (String Global)) (word : String Global) (arguments : Given) → AreGiven arguments words → word ≡ get_or words 1 word → string_bytes word ≡ decimal arguments.1.0
entry_word [] word arguments are is = absurd are
entry_word (a ∷ []) word arguments are is = absurd are.1
entry_word (a ∷ (b ∷ words)) word arguments are is = subst (λ (w : String Global). string_bytes w ≡ decimal arguments.1.0) (sym is) are.1.0

pub gas_word : (words : List (String Global)) (word : String Global) (arguments : Given) → AreGiven arguments words → word ≡ get_or words 2 word → string_bytes word ≡ decimal arguments.1.1.0
gas_word [] word arguments are is = absurd are
gas_word (a ∷ []) word arguments are is = absurd are.1
gas_word (a ∷ (b ∷ [])) word arguments are is = absurd are.1.1
gas_word (a ∷ (b ∷ (c ∷ words))) word arguments are is = subst (λ (w : String Global). string_bytes w ≡ decimal arguments.1.1.0) (sym is) are.1.1.0

pub bytes_word : (words : List (String Global)) (word : String Global) (arguments : Given) → AreGiven arguments words → word ≡ get_or words 3 word → IsHexadecimal arguments.1.1.1.0 (string_bytes word)
bytes_word [] word arguments are is = absurd are
bytes_word (a ∷ []) word arguments are is = absurd are.1
bytes_word (a ∷ (b ∷ [])) word arguments are is = absurd are.1.1
bytes_word (a ∷ (b ∷ (c ∷ []))) word arguments are is = absurd are.1.1.1
bytes_word (a ∷ (b ∷ (c ∷ (d ∷ words)))) word arguments are is = subst (λ (w : String Global). IsHexadecimal arguments.1.1.1.0 (string_bytes w)) (sym is) are.1.1.1.0

pub last_word : (words : List (String Global)) (word : String Global) (arguments : Given) → AreGiven arguments words → word ≡ get_or words 4 word → string_bytes word ≡ decimal arguments.1.1.1.1.0
last_word [] word arguments are is = absurd are
last_word (a ∷ []) word arguments are is = absurd are.1
last_word (a ∷ (b ∷ [])) word arguments are is = absurd are.1.1
last_word (a ∷ (b ∷ (c ∷ []))) word arguments are is = absurd are.1.1.1
last_word (a ∷ (b ∷ (c ∷ (d ∷ [])))) word arguments are is = absurd are.1.1.1.1
last_word (a ∷ (b ∷ (c ∷ (d ∷ (e ∷ words))))) word arguments are is = subst (λ (w : String Global). string_bytes w ≡ decimal arguments.1.1.1.1.0) (sym is) are.1.1.1.1.0

refused_for : (words : List (List ℕ)) (misfit : Misfit) → (misfit ≡ OtherWords → (arguments : Given) → Asks (command the.Trace arguments) ((row the.Trace).name ∷ words) → ⊥) → Parses the.Trace words (Err misfit)
refused_for words OtherWords none = none refl
refused_for words NoMemory none = tt

-- where an argument fits no word of its own, the words are refused
pub refused : (words : List (List ℕ)) (result : Result parsed_line.Line Misfit) (misfit : Misfit) → (m : Misfit) × (result ≡ Err m) × (m ≡ misfit)
    → (misfit ≡ OtherWords → (arguments : Given) → Asks (command the.Trace arguments) ((row the.Trace).name ∷ words) → ⊥) → Parses the.Trace words result
refused words result misfit is none =
    subst (Parses the.Trace words) (sym is.1) (subst (λ (m : Misfit). Parses the.Trace words (Err m)) (sym is.2) (refused_for words misfit none))
