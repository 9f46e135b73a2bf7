-- A verb has one name, and no other verb has it; so words ask by the verb that their first names.
use Rattle.std.proofs.Common.{◌≡◌, ◌≤◌, ℕ, List, [], ◌∷◌, Some, None, refl, sym, ap, ◌∙◌, subst, length, Err, get_or, take, drop, ◌-◌, arith}
use Rattle.std.specs.Prelude.{String, string_bytes}
use Rattle.std.specs.declared.alloc.Global.{Global}
use Rattle.std.proofs.lemmas.List.{take_rest}
use Rattle.jam_cli.specs.declared.verb.Verb.{Verb}
use Rattle.jam_cli.specs.declared.verb.Verb.TheVariants.{Run}
use Rattle.jam_cli.specs.declared.argument.Misfit.{Misfit}
use Rattle.jam_cli.specs.declared.argument.Misfit.TheVariants.{OtherWords}
use Rattle.jam_cli.specs.Table.{row, verb_named, Arguments, Command, command, Asks, AsksNothing, texts}
use Rattle.jam_cli.specs.Parts.{Parses}

-- the checker finds each verb by its name
named : (verb : Verb) → verb_named (row verb).name ≡ Some verb
unfolding verb_named
named Run = refl
named _ = refl

pub name-injective : (v w : Verb) → (row v).name ≡ (row w).name → v ≡ w
name-injective v w same =
    let found : Some v ≡ Some w = sym (named v) ∙ ap verb_named same ∙ named w in
    cc

-- the first word names no verb
pub unknown : (word : List ℕ) (rest : List (List ℕ)) → verb_named word ≡ None → AsksNothing (word ∷ rest)
unknown word rest none c asks =
    let found : verb_named word ≡ Some c.verb = ap verb_named asks.words_are.0 ∙ named c.verb in
    absurd (cc (none, found))

-- the first word names a verb by which nothing is asked
only_verb : (verb : Verb) (word : List ℕ) (rest : List (List ℕ)) → word ≡ (row verb).name
    → ((arguments : Arguments (row verb).parts) → Asks (command verb arguments) ((row verb).name ∷ rest) → ⊥) → AsksNothing (word ∷ rest)
only_verb verb word rest is none c asks =
    let same : c.verb ≡ verb = name-injective c.verb verb (sym asks.words_are.0 ∙ is) in
    let asked : Asks c ((row c.verb).name ∷ rest) = subst (λ w. Asks c (w ∷ rest)) asks.words_are.0 asks in
    subst (λ v. ((arguments : Arguments (row v).parts) → Asks (command v arguments) ((row v).name ∷ rest) → ⊥) → ⊥) same (λ (f : (arguments : Arguments (row c.verb).parts) → Asks (command c.verb arguments) ((row c.verb).name ∷ rest) → ⊥). f c.arguments asked) none

pub parsed : (verb : Verb) (word : List ℕ) (rest : List (List ℕ)) (c : Command) → word ≡ (row verb).name → Asks c ((row verb).name ∷ rest) → Asks c (word ∷ rest)
parsed verb word rest c is asks = subst (λ w. Asks c (w ∷ rest)) (sym is) asks

pub not_parsed : (verb : Verb) (word : List ℕ) (rest : List (List ℕ)) (misfit : Misfit) → word ≡ (row verb).name → misfit ≡ OtherWords
    → Parses verb rest (Err misfit) → AsksNothing (word ∷ rest)
not_parsed verb word rest misfit is other none = only_verb verb word rest is (subst (λ m. Parses verb rest (Err m)) other none)

-- the words of a list that has a first one
pub first_text : (words : List (String Global)) (word : String Global) → 1 ≤ length words → word ≡ get_or words 0 word
    → texts words ≡ string_bytes word ∷ texts (take (length words - 1) (drop 1 words))
first_text [] word some is = absurd (omega (arith, some))
first_text (w ∷ ws) word some is =
    let same : word ≡ w = is in
    let rest : take (length (w ∷ ws) - 1) (drop 1 (w ∷ ws)) ≡ ws = take_rest (w ∷ ws) 1 in
    ap (λ (v : String Global). string_bytes v ∷ texts ws) (sym same) ∙ ap (λ (vs : List (String Global)). string_bytes word ∷ texts vs) (sym rest)
